use Rattle.std.proofs.Common.{◌<◌, arith}
use Rattle.std.proofs.lemmas.List.Elements.{All-from_get_or}
use Rattle.lane_rows.proofs.tests.residues.Goals as goal

pub returns : goal.returns
returns c = All-from_get_or (λ x. x < c.args.p) c.loop-place.row 0 (λ k h. c.loop-place.invariant.below k (omega (arith, c.loop-place.invariant.long)))
