use Rattle.std.proofs.Common.{ℕ, ◌<◌, get_or}
use Rattle.polys.specs.Poly.{Polynomial, IsVector}
use Rattle.module_division.proofs.affine.keep_vectors.Given as goal

abbrev pub invariant-loop-f : goal.invariant-loop-f
invariant-loop-f l = (k : ℕ) (d : Polynomial) → k < l.f-index → IsVector (get_or l.fs k d).prime (get_or l.fs k d).terms
