use Rattle.std.proofs.Common.{◌≡◌, ◌<◌, ◌≤◌, ℕ, get_or}
use Rattle.basis_timing.proofs.is_graded.Given as goal

abbrev pub invariant-loop-v : goal.invariant-loop-v
invariant-loop-v l = (k : ℕ) → l.variables ≤ k → k < l.v → get_or l.m.exponents k 0 ≡ 0
