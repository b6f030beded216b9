use Rattle.std.proofs.Common.{◌≡◌, ◌++◌, [], length, get_or, map, take}
use Rattle.row_space.specs.Subspace.{product}
use Rattle.finite_algebra.proofs.projecting.push_images.Given as goal

abbrev pub invariant-loop-b : goal.invariant-loop-b
invariant-loop-b l = l.into ≡ l.fn.into ++ map (λ b. product l.prime (length l.places) (get_or l.rows b []) l.matrix) (take l.b-index l.places)
