use Rattle.std.proofs.Common.{◌∙◌, ℕ, List, [], length, subst}
use Rattle.std.proofs.lemmas.List.{get_or_default}
use Rattle.row_matrices.specs.Inverses.{IsRest}
use Rattle.row_matrices.proofs.KernelLaws.{rests_pushed}
use Rattle.row_matrices.proofs.backward.rests.Goals as goal

pub loop-i-preserved : goal.loop-i-preserved
loop-i-preserved c =
    let us = c.args.rows.now in
    let i = c.loop-i.i in
    let row_is = c.as_slice.ensures ∙ c.index-rows-i.is ∙ get_or_default us i c.index-rows-i.result [] c.loop-i-test.true in
    rests_pushed c.args.prime us c.args.inverse.now c.args.units.now c.loop-i.made c.push.new.self c.in_ok-row.row i c.in_ok-push.ensures.ok
    (subst (λ (r : List ℕ). IsRest c.args.prime (length us) i r c.args.inverse.now c.args.units.now c.in_ok-row.row) row_is c.in_ok-row.ensures) c.loop-i.invariant
