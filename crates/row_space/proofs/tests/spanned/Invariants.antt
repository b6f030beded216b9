use Rattle.std.proofs.Common.{◌≡◌}
use Rattle.row_space.proofs.tests.spanned.Given as goal

abbrev pub invariant-loop-row : goal.invariant-loop-row
invariant-loop-row g l = record { prime : l.space.prime ≡ l.prime; width : l.space.width ≡ 3 }
