use Rattle.std.proofs.Common.{◌≡◌}
use Rattle.row_timing.proofs.insertions.Given as goal

abbrev pub invariant-loop-seed : goal.invariant-loop-seed
invariant-loop-seed l = record { prime : l.space.prime ≡ l.prime; width : l.space.width ≡ l.width }
