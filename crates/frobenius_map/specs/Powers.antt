-- The p-th powers of elements, what they take to 0, and what they fix.
use Rattle.std.specs.Prelude.{◌≡◌, ◌↔◌, ℕ, zero, suc, ◌+◌, ◌<◌, List, [], length, slice_index, slice_index_or}
use Rattle.std.specs.List.{All}
use Rattle.comm_ring.specs.Ring.{pow}
use Rattle.comm_ring.specs.Modules.{InSpan}
use Rattle.comm_ring.specs.Rows.{row_of}
use Rattle.row_space.specs.Echelon.{IsRow}
use Rattle.row_space.specs.Subspace.{Subspace, IsIn}
use Rattle.finite_algebra.specs.Elements.{FiniteAlgebra, AreProducts, IsElement, elements, ring_of, unit_row}

-- the rows are the p-th powers of the basis elements
pub record ArePowers (A : FiniteAlgebra) (matrix : List (List ℕ)) : Type 0 where
  pub count : length matrix ≡ A.dimension
  pub rows : All (IsElement A) matrix
  pub powers : (k : ℕ) → k < A.dimension → (elements A).◌≋◌ (slice_index_or matrix k []) (pow (ring_of A) (unit_row A.dimension k) A.prime)

-- every member of the first is one of the second
abbrev pub IsWithin : Subspace → Subspace → Type 0
IsWithin one other = (f : List ℕ) → IsIn one f → IsIn other f

-- the elements that the p-th power fixes are the combinations of the rows
pub record AreFixed (A : FiniteAlgebra) (us : List (List ℕ)) : Type 0 where
  pub rows : All (IsElement A) us
  pub fixed : (f : List ℕ) → IsElement A f → InSpan (elements A) us f ↔ (elements A).◌≋◌ (pow (ring_of A) f A.prime) f

-- the left and the right half of a row of 2 n entries
abbrev pub left_half : FiniteAlgebra → List ℕ → List ℕ
left_half A row = row_of A.dimension (λ i. slice_index row i)

abbrev pub right_half : FiniteAlgebra → List ℕ → List ℕ
right_half A row = row_of A.dimension (λ i. slice_index row (A.dimension + i))

-- the right half is the p-th power of the left one
abbrev pub IsOnGraph : FiniteAlgebra → List ℕ → Type 0
IsOnGraph A row = (elements A).◌≋◌ (right_half A row) (pow (ring_of A) (left_half A row) A.prime)

-- all members are pairs of an element and its p-th power
pub record IsGraph (A : FiniteAlgebra) (space : Subspace) : Type 0 where
  pub prime : space.prime ≡ A.prime
  pub width : space.width ≡ A.dimension + A.dimension
  pub members : (f : List ℕ) → IsIn space f → IsOnGraph A f

-- as many residues as two elements have, on the graph
pub record IsPair (A : FiniteAlgebra) (row : List ℕ) : Type 0 where
  pub fits : IsRow A.prime (A.dimension + A.dimension) row
  pub on : IsOnGraph A row

-- the products with an element, and those with its p-th power
abbrev pub AreProductsOfPair : FiniteAlgebra → (left right : List (List ℕ)) → Type 0
AreProductsOfPair A left right = (x : List ℕ) × AreProducts A x left × AreProducts A (pow (ring_of A) x A.prime) right

-- the row is the p-th power of the basis element k
pub record IsPowerOfUnit (A : FiniteAlgebra) (k : ℕ) (row : List ℕ) : Type 0 where
  pub fits : IsElement A row
  pub power : (elements A).◌≋◌ row (pow (ring_of A) (unit_row A.dimension k) A.prime)

-- the p-th power, e times
abbrev pub iterated : FiniteAlgebra → ℕ → List ℕ → List ℕ
iterated A zero x = x
iterated A (suc e) x = iterated A e (pow (ring_of A) x A.prime)

-- the space holds exactly the elements that the p-th power takes to 0 in e times
pub record IsStage (A : FiniteAlgebra) (e : ℕ) (space : Subspace) : Type 0 where
  pub prime : space.prime ≡ A.prime
  pub width : space.width ≡ A.dimension
  pub members : (x : List ℕ) → IsElement A x → IsIn space x ↔ (elements A).◌≋◌ (iterated A e x) (elements A).origin

-- one such space, and the next
abbrev pub AreStages : FiniteAlgebra → (found next : Subspace) → Type 0
AreStages A found next = (e : ℕ) × IsStage A e found × IsStage A (suc e) next

-- the rows span exactly the elements that the p-th power fixes
pub record IsFixedSpace (A : FiniteAlgebra) (space : Subspace) : Type 0 where
  pub prime : space.prime ≡ A.prime
  pub width : space.width ≡ A.dimension
  pub fixed : AreFixed A space.basis
