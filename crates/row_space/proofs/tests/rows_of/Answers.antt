use Rattle.std.proofs.Common.{All, sym, subst, ◌∙◌}
use Rattle.std.proofs.lemmas.List.Elements.{All-push}
use Rattle.row_space.specs.Echelon.{IsRow}
use Rattle.row_space.proofs.tests.rows_of.Goals as goal

pub loop-row-preserved : goal.loop-row-preserved
loop-row-preserved g c =
    let made = c.in_ok-row_of.ensures in
    let two = made.0 ∙ c.told-rows c.loop-row.row-index c.loop-row-test.true in
    subst (All (IsRow c.args.prime 2)) (sym c.in_ok-push.ensures.ok) (All-push (IsRow c.args.prime 2) c.loop-row.made c.in_ok-row_of.field-0 c.loop-row.invariant (two, made.1))
