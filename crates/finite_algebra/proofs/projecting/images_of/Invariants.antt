use Rattle.std.proofs.Common.{◌≡◌, map, take}
use Rattle.row_space.specs.Subspace.{product}
use Rattle.finite_algebra.proofs.projecting.images_of.Given as goal

abbrev pub invariant-loop-v : goal.invariant-loop-v
invariant-loop-v l = l.made ≡ map (λ v. product l.prime l.columns v l.matrix) (take l.v-index l.vs)
