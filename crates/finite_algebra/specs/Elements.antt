-- Finite-dimensional commutative algebras with one over the field of p elements.
use Rattle.std.specs.Prelude.{◌≡◌, ℕ, ◌+◌, ◌*◌, ◌<◌, List, [], length, slice_index, slice_index_or, slice_set, replicate}
use Rattle.std.specs.List.{All}
use Rattle.comm_ring.specs.Ring.{Ops, pow}
use Rattle.comm_ring.specs.Sums.{joined, below}
use Rattle.comm_ring.specs.Modules.{ModuleOps}
use Rattle.comm_ring.specs.Rows.{rows}
use Rattle.row_space.specs.Echelon.{IsRow}
use Rattle.row_space.specs.Subspace.{IsZero}

-- the prime, the dimension n, the row of the one, and the products of the basis elements: the row i * n + j is the product of the elements i and j
pub record FiniteAlgebra : Type 0 where
  pub prime : ℕ
  pub dimension : ℕ
  pub one : List ℕ
  pub products : List (List ℕ)

-- elements by their coordinates: rows with their sums and multiples modulo p
abbrev pub elements : FiniteAlgebra → ModuleOps ℕ
elements A = rows A.prime A.dimension

-- one residue for each basis element
abbrev pub IsElement : FiniteAlgebra → List ℕ → Type 0
IsElement A x = IsRow A.prime A.dimension x

-- f 0 + .. + f (n - 1)
abbrev pub total : {S : Type 0} (V : ModuleOps S) → (ℕ → V.carrier) → ℕ → V.carrier
total V f n = joined V.◌⊞◌ V.origin f (below n)

-- the product of x and y: the sum over i and j of x_i y_j times the product of the basis elements i and j
unfoldable pub times : FiniteAlgebra → List ℕ → List ℕ → List ℕ
times A x y =
    let V = elements A in
    let n = A.dimension in total V (λ i. V.◌·◌ (slice_index x i) (total V (λ j. V.◌·◌ (slice_index y j) (slice_index_or A.products (i * n + j) [])) n)) n

-- the elements as a ring
abbrev pub ring_of : FiniteAlgebra → Ops
ring_of A = let V = elements A in record { carrier = List ℕ; ◌≈◌ = V.◌≋◌; ◌⊕◌ = V.◌⊞◌; ◌⊗◌ = times A; neg = V.opposite; 𝟘 = V.origin; 𝟙 = A.one }

-- some power of the element is 0
abbrev pub IsNilpotent : FiniteAlgebra → List ℕ → Type 0
IsNilpotent A x = (k : ℕ) × IsZero A.prime A.dimension (pow (ring_of A) x k)

-- the product is commutative and associative, and the one is its one
pub record IsAlgebra (A : FiniteAlgebra) : Type 0 where
  pub count : length A.products ≡ A.dimension * A.dimension
  pub rows : All (IsElement A) A.products
  pub unit : IsElement A A.one
  pub neutral : (x : List ℕ) → IsElement A x → times A A.one x ≡ x
  pub commutative : (x y : List ℕ) → IsElement A x → IsElement A y → times A x y ≡ times A y x
  pub associative : (x y z : List ℕ) → IsElement A x → IsElement A y → IsElement A z → times A (times A x y) z ≡ times A x (times A y z)

-- sums and multiples can be taken out of either factor
pub record IsBilinear (A : FiniteAlgebra) : Type 0 where
  pub left_sum : (x y z : List ℕ) → let V = elements A in V.◌≋◌ (times A (V.◌⊞◌ x y) z) (V.◌⊞◌ (times A x z) (times A y z))
  pub right_sum : (x y z : List ℕ) → let V = elements A in V.◌≋◌ (times A z (V.◌⊞◌ x y)) (V.◌⊞◌ (times A z x) (times A z y))
  pub left_multiple : (c : ℕ) (x z : List ℕ) → let V = elements A in V.◌≋◌ (times A (V.◌·◌ c x) z) (V.◌·◌ c (times A x z))
  pub right_multiple : (c : ℕ) (x z : List ℕ) → let V = elements A in V.◌≋◌ (times A z (V.◌·◌ c x)) (V.◌·◌ c (times A z x))

-- the row of length n that is 1 at the place k and 0 elsewhere
abbrev pub unit_row : ℕ → ℕ → List ℕ
unit_row n k = slice_set (replicate n 0) k 1

-- the rows are the products of the basis elements with x
pub record AreProducts (A : FiniteAlgebra) (x : List ℕ) (matrix : List (List ℕ)) : Type 0 where
  pub count : length matrix ≡ A.dimension
  pub rows : All (IsElement A) matrix
  pub products : (k : ℕ) → k < A.dimension → slice_index_or matrix k [] ≡ times A (unit_row A.dimension k) x

-- the basis elements commute and associate, and the one is a one for each of them
pub record HasBasisLaws (A : FiniteAlgebra) : Type 0 where
  pub count : length A.products ≡ A.dimension * A.dimension
  pub rows : All (IsElement A) A.products
  pub unit : IsElement A A.one
  pub neutral : (k : ℕ) → k < A.dimension → let e = unit_row A.dimension in times A A.one (e k) ≡ e k
  pub commutative : (i j : ℕ) → i < A.dimension → j < A.dimension → let e = unit_row A.dimension in times A (e i) (e j) ≡ times A (e j) (e i)
  pub associative : (i j k : ℕ) → i < A.dimension → j < A.dimension → k < A.dimension → let e = unit_row A.dimension in times A (times A (e i) (e j)) (e k) ≡ times A (e i) (times A (e j) (e k))

-- what holds at the basis elements holds at all elements
abbrev pub BasisLawsSuffice : Type 0
BasisLawsSuffice = (A : FiniteAlgebra) → 0 < A.prime → HasBasisLaws A → IsAlgebra A
