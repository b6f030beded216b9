-- Ideals of an algebra, and the quotient by one.
use Rattle.std.specs.Prelude.{◌≡◌, ◌≢◌, ◌↔◌, ℕ, ◌+◌, ◌*◌, ◌<◌, List, [], length, slice_index, slice_index_or, map}
use Rattle.std.specs.List.{All, flat_map}
use Rattle.comm_ring.specs.Ring.{IsRingMap}
use Rattle.comm_ring.specs.Ideals.{InIdeal}
use Rattle.row_space.specs.Echelon.{IsRow}
use Rattle.row_space.specs.Sums.{entry}
use Rattle.row_space.specs.Subspace.{Subspace, FitsIn, IsIn, DifferIn, IsZeroAtPivots, IsZero, product}
use Rattle.finite_algebra.specs.Elements.{FiniteAlgebra, IsElement, elements, times, ring_of, unit_row}

-- a space of elements that holds every product of an element and a member
pub record IsIdealOf (A : FiniteAlgebra) (space : Subspace) : Type 0 where
  pub prime : space.prime ≡ A.prime
  pub width : space.width ≡ A.dimension
  pub absorbs : (x f : List ℕ) → IsElement A x → IsElement A f → IsIn space f → IsIn space (times A x f)

-- an ideal that holds the elements gs, and whose members are sums of multiples of them
pub record IsGeneratedBy (A : FiniteAlgebra) (gs : List (List ℕ)) (space : Subspace) : Type 0 where
  pub ideal : IsIdealOf A space
  pub holds : All (IsIn space) gs
  pub multiples : (f : List ℕ) → IsIn space f → InIdeal (ring_of A) gs f

-- a matrix of m columns that takes exactly the members of the ideal to 0, where m is the dimension modulo the ideal
pub record IsProjection (A : FiniteAlgebra) (ideal : Subspace) (m : ℕ) (matrix : List (List ℕ)) : Type 0 where
  pub dimension : m + length ideal.basis ≡ A.dimension
  pub count : length matrix ≡ A.dimension
  pub rows : All (IsRow A.prime m) matrix
  pub kernel : (v : List ℕ) → IsZero A.prime m (product A.prime m v matrix) ↔ IsIn ideal v

-- the element v times the matrix, as an element of B
abbrev pub image : FiniteAlgebra → List (List ℕ) → List ℕ → List ℕ
image B matrix v = product B.prime B.dimension v matrix

-- the matrix takes A onto B, keeps sums, products and the one, and takes exactly the ideal to 0
pub record IsQuotient (A : FiniteAlgebra) (ideal : Subspace) (B : FiniteAlgebra) (matrix : List (List ℕ)) : Type 0 where
  pub prime : B.prime ≡ A.prime
  pub dimension : B.dimension + length ideal.basis ≡ A.dimension
  pub count : length matrix ≡ A.dimension
  pub rows : All (IsElement B) matrix
  pub ring_map : IsRingMap (ring_of A) (ring_of B) (image B matrix)
  pub onto : (w : List ℕ) → (v : List ℕ) × IsElement A v × (elements B).◌≋◌ (image B matrix v) w
  pub kernel : (v : List ℕ) → IsZero B.prime B.dimension (image B matrix v) ↔ IsIn ideal v

-- the row of the class of the unit row k that is 0 at the pivots
pub record IsClass (space : Subspace) (k : ℕ) (row : List ℕ) : Type 0 where
  pub fits : FitsIn space row
  pub same_class : DifferIn space (unit_row space.width k) row
  pub zero : IsZeroAtPivots space row
  pub only : (other : List ℕ) → FitsIn space other → DifferIn space (unit_row space.width k) other → IsZeroAtPivots space other → other ≡ row

-- the numbers below n at which the row with that number is not 0 at its own place, each once
pub record AreFree (us : List (List ℕ)) (n : ℕ) (places : List ℕ) : Type 0 where
  pub within : (a : ℕ) → a < length places → slice_index places a < n
  pub nonzero : (a : ℕ) → a < length places → entry us (slice_index places a) (slice_index places a) ≢ 0
  pub once : (a b : ℕ) → a < length places → b < length places → slice_index places a ≡ slice_index places b → a ≡ b
  pub all : (k : ℕ) → k < n → entry us k k ≢ 0 → (a : ℕ) × (a < length places) × slice_index places a ≡ k

-- the images of the products of the basis elements at the places
abbrev pub images_of_products : (p n : ℕ) (products matrix : List (List ℕ)) → List ℕ → List (List ℕ)
images_of_products p n products matrix places = flat_map (λ a. map (λ b. product p (length places) (slice_index_or products (a * n + b) []) matrix) places) places
