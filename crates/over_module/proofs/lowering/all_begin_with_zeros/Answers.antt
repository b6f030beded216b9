use Rattle.std.proofs.Common.{◌≤◌, IsTrue, All, length, refl, subst, ◌∙◌, arith}
use Rattle.std.proofs.lemmas.List.{take_all}
use Rattle.std.proofs.lemmas.List.Elements.{All-more}
use Rattle.over_module.specs.Raising.{BeginsWithZeros}
use Rattle.over_module.proofs.lowering.all_begin_with_zeros.Goals as goal

pub loop-row-preserved : goal.loop-row-preserved
loop-row-preserved c =
    let yes : IsTrue c.begins_with_zeros.result = cc in
    All-more (BeginsWithZeros c.args.zeros) c.args.rows.now c.loop-row.row-index c.row-item.result c.loop-row-test.true c.loop-row.invariant
    (subst (BeginsWithZeros c.args.zeros) (c.as_slice.ensures ∙ c.row-item.is) (c.begins_with_zeros.ensures.0 yes))

pub returns : goal.returns
returns c =
    let whole : length c.args.rows.now ≤ c.loop-row.row-index = omega (arith, c.loop-row-test.false) in
    ((λ t. subst (All (BeginsWithZeros c.args.zeros)) (take_all c.loop-row.row-index c.args.rows.now whole) c.loop-row.invariant), λ a. refl)
