use Rattle.std.proofs.Common.{◌≡◌}
use Rattle.basis_examples.proofs.modules.polynomial.Given as goal

abbrev pub invariant-loop-c : goal.invariant-loop-c
invariant-loop-c l = l.sum.prime ≡ l.p
