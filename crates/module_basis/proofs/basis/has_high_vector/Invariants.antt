use Rattle.std.proofs.Common.{ℕ, ◌<◌, get_or}
use Rattle.polys.specs.Poly.{Polynomial}
use Rattle.module_basis.specs.Basis.{IsHigh}
use Rattle.module_basis.proofs.basis.has_high_vector.Given as goal

abbrev pub invariant-loop-k : goal.invariant-loop-k
invariant-loop-k l = (j : ℕ) (d : Polynomial) → j < l.k → IsHigh l.shift l.cap (get_or l.vectors j d).terms → ⊥
