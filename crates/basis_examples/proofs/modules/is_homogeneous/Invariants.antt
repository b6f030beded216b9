use Rattle.std.proofs.Common.{◌≡◌, take}
use Rattle.polys.specs.Terms.{EachMono}
use Rattle.graded_modules.specs.Vector.{degree_at}
use Rattle.basis_examples.proofs.modules.is_homogeneous.Given as goal

abbrev pub invariant-loop-t : goal.invariant-loop-t
invariant-loop-t l = EachMono (λ m. degree_at l.shift m ≡ l.degree) (take l.t-index l.terms)
