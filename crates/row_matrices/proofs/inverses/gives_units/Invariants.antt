use Rattle.std.proofs.Common.{◌≡◌, ◌<◌, ℕ, [], get_or}
use Rattle.row_space.specs.Subspace.{product}
use Rattle.finite_algebra.specs.Elements.{unit_row}
use Rattle.row_matrices.proofs.inverses.gives_units.Given as goal

abbrev pub invariant-loop-j : goal.invariant-loop-j
invariant-loop-j l = (i : ℕ) → i < l.j → product l.prime l.n (get_or l.rows i []) l.matrix ≡ unit_row l.n i
