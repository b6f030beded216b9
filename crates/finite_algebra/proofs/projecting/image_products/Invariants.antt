use Rattle.std.proofs.Common.{◌≡◌, ◌+◌, ◌*◌, [], length, get_or, map, flat_map, take}
use Rattle.row_space.specs.Subspace.{product}
use Rattle.finite_algebra.proofs.projecting.image_products.Given as goal

abbrev pub invariant-loop-a : goal.invariant-loop-a
invariant-loop-a l = l.made ≡ flat_map (λ a. map (λ b. product l.prime (length l.places) (get_or l.products (a * l.n + b) []) l.matrix) l.places) (take l.a-index l.places)
