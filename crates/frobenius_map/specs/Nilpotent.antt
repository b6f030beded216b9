-- The nilpotent elements of an algebra.
use Rattle.std.specs.Prelude.{◌≡◌, ◌↔◌, ℕ, List}
use Rattle.row_space.specs.Subspace.{Subspace, IsIn}
use Rattle.finite_algebra.specs.Elements.{FiniteAlgebra, IsElement, IsNilpotent}

-- the space holds exactly the nilpotent elements
pub record IsRadicalOf (A : FiniteAlgebra) (space : Subspace) : Type 0 where
  pub prime : space.prime ≡ A.prime
  pub width : space.width ≡ A.dimension
  pub members : (x : List ℕ) → IsElement A x → IsIn space x ↔ IsNilpotent A x
