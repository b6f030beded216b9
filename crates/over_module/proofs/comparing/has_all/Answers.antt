use Rattle.std.proofs.Common.{◌≤◌, IsTrue, All, length, refl, sym, subst, ◌∙◌, arith}
use Rattle.std.proofs.lemmas.Bool.{false≢true}
use Rattle.std.proofs.lemmas.List.{take_all}
use Rattle.std.proofs.lemmas.List.Elements.{All-more}
use Rattle.row_space.specs.Subspace.{IsIn}
use Rattle.over_module.proofs.comparing.has_all.Goals as goal

pub returns-then-not-branch : goal.returns-then-not-branch
returns-then-not-branch c = (
  (λ t. absurd (false≢true t)),
  λ a.
      let inside : IsIn c.args.space.now c.as_slice.result.now = subst (IsIn c.args.space.now) (sym (c.as_slice.ensures ∙ c.row-item.is)) (a c.loop-row.row-index c.row-item.result c.loop-row-test.true) in
      let bad : ⊥ = (let t : IsTrue c.in_ok-contains.field-0 = c.in_ok-contains.ensures.1 inside in cc) in
      absurd bad,
)

pub loop-row-preserved : goal.loop-row-preserved
loop-row-preserved c =
    let yes : IsTrue c.in_ok-contains.field-0 = cc in
    All-more (IsIn c.args.space.now) c.args.rows.now c.loop-row.row-index c.row-item.result c.loop-row-test.true c.loop-row.invariant
    (subst (IsIn c.args.space.now) (c.as_slice.ensures ∙ c.row-item.is) (c.in_ok-contains.ensures.0 yes))

pub returns : goal.returns
returns c =
    let whole : length c.args.rows.now ≤ c.loop-row.row-index = omega (arith, c.loop-row-test.false) in
    ((λ t. subst (All (IsIn c.args.space.now)) (take_all c.loop-row.row-index c.args.rows.now whole) c.loop-row.invariant), λ a. refl)
