use Rattle.std.proofs.Common.{◌≡◌}
use Rattle.basis_timing.proofs.vector.Given as goal

abbrev pub invariant-loop : goal.invariant-loop
invariant-loop l = l.sum.prime ≡ l.p
