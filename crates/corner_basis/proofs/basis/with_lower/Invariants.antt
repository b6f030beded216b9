use Rattle.std.proofs.Common.{◌≡◌, ◌≤◌, ◌∷◌, length}
use Rattle.corner_basis.proofs.Falling.{from}
use Rattle.corner_basis.proofs.basis.with_lower.Given as goal

abbrev pub invariant-loop-i : goal.invariant-loop-i
invariant-loop-i l = (l.i ≤ length l.lower) × (l.terms.items ≡ record { coeff = 1; mono = l.fn.lead } ∷ from l.prime l.i l.coefficients l.lower)

abbrev pub decreases-loop-i : goal.decreases-loop-i
decreases-loop-i l = l.i
