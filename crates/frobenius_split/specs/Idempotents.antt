-- Idempotents that are orthogonal to each other, and what splits them.
use Rattle.std.specs.Prelude.{◌≡◌, ◌≢◌, ◌↔◌, ℕ, ◌+◌, ◌-◌, ◌*◌, ◌%◌, ◌<◌}
use Rattle.std.specs.Prelude.{List, [], ◌∷◌, length, slice_index, slice_index_or}
use Rattle.std.specs.List.{All}
use Rattle.comm_ring.specs.Ring.{pow}
use Rattle.row_space.specs.Subspace.{Subspace, IsIn, IsZero, DifferIn}
use Rattle.finite_algebra.specs.Elements.{FiniteAlgebra, IsElement, IsNilpotent, elements, ring_of, times}
use Rattle.frobenius_split.specs.Points.{at}
use Rattle.frobenius_split.specs.Parts.{less_number}

-- the members added up
abbrev pub sum_of : FiniteAlgebra → List (List ℕ) → List ℕ
sum_of A [] = (elements A).origin
sum_of A (x ∷ xs) = (elements A).◌⊞◌ x (sum_of A xs)

-- the product of any two of them is 0
abbrev pub AreOrthogonal : FiniteAlgebra → List (List ℕ) → Type 0
AreOrthogonal A [] = Unit {0}
AreOrthogonal A (x ∷ xs) = All (λ y. (elements A).◌≋◌ (times A x y) (elements A).origin) xs × AreOrthogonal A xs

-- elements other than 0, orthogonal to each other, with e as their sum, each of which is its product with e: so each is its own square
pub record AreIdempotentsIn (A : FiniteAlgebra) (e : List ℕ) (es : List (List ℕ)) : Type 0 where
  pub rows : All (IsElement A) es
  pub nonzero : All (λ f. ¬ (IsZero A.prime A.dimension f)) es
  pub inside : All (λ f. (elements A).◌≋◌ (times A e f) f) es
  pub orthogonal : AreOrthogonal A es
  pub sum : (elements A).◌≋◌ (sum_of A es) e

-- the same with the one as their sum
abbrev pub AreIdempotents : FiniteAlgebra → List (List ℕ) → Type 0
AreIdempotents A es = AreIdempotentsIn A A.one es

-- u is a number at e: the product of u and e is c e
abbrev pub IsNumberAt : FiniteAlgebra → (u e : List ℕ) → Type 0
IsNumberAt A u e = (c : ℕ) × (elements A).◌≋◌ (times A u e) ((elements A).◌·◌ c e)

-- the p-th power of u is u
abbrev pub IsFixed : FiniteAlgebra → List ℕ → Type 0
IsFixed A u = (elements A).◌≋◌ (pow (ring_of A) u A.prime) u

-- the product of w and all u - c, for the numbers c of the list
abbrev pub lowered_by : FiniteAlgebra → List ℕ → List ℕ → List ℕ → List ℕ
lowered_by A u [] w = w
lowered_by A u (c ∷ cs) w = times A (less_number A u c) (lowered_by A u cs w)

-- u times the element is c times it
abbrev pub IsEigenpart : FiniteAlgebra → List ℕ → ℕ → List ℕ → Type 0
IsEigenpart A u c part = (elements A).◌≋◌ (times A u part) ((elements A).◌·◌ c part)

-- elements other than 0 with w as their sum; the product of u with each of them is its number times it, and the numbers rise
pub record AreEigenparts (A : FiniteAlgebra) (u w values : List ℕ) (parts : List (List ℕ)) : Type 0 where
  pub count : length values ≡ length parts
  pub rows : All (IsElement A) parts
  pub nonzero : All (λ f. ¬ (IsZero A.prime A.dimension f)) parts
  pub eigen : (j : ℕ) → j < length parts → IsEigenpart A u (slice_index values j) (slice_index_or parts j [])
  pub rising : (i j : ℕ) → i < j → j < length parts → slice_index values i < slice_index values j
  pub sum : (elements A).◌≋◌ (sum_of A parts) w

-- the part divided by its number less c
abbrev pub IsDividedPart : FiniteAlgebra → ℕ → ℕ → List ℕ → List ℕ → Type 0
IsDividedPart A c value part made =
    (d : ℕ) × (((value + (A.prime - c)) * d) % A.prime ≡ 1 % A.prime) × (elements A).◌≋◌ made ((elements A).◌·◌ d part)

-- made holds the first j of the parts, each divided by its number less c, and what is left is w less their sum
pub record AreDivided (A : FiniteAlgebra) (values : List ℕ) (parts : List (List ℕ)) (c : ℕ) (w : List ℕ) (j : ℕ)
    (made : List (List ℕ)) (left : List ℕ) : Type 0 where
  pub count : length made ≡ j
  pub rows : All (IsElement A) made
  pub rest : IsElement A left
  pub quotients : (i : ℕ) → i < j → IsDividedPart A c (slice_index values i) (slice_index_or parts i []) (slice_index_or made i [])
  pub sum : (elements A).◌≋◌ ((elements A).◌⊞◌ left (sum_of A made)) w

-- the space holds exactly the elements whose product with e lies in the other space
pub record IsIdealAt (A : FiniteAlgebra) (nilpotent : Subspace) (e : List ℕ) (space : Subspace) : Type 0 where
  pub prime : space.prime ≡ A.prime
  pub width : space.width ≡ A.dimension
  pub members : (x : List ℕ) → IsElement A x → IsIn space x ↔ IsIn nilpotent (times A x e)

-- idempotents, orthogonal to each other with the one as their sum, one beside each of the spaces: modulo its own space it is the
-- one, and it lies in each of the others; a space holds exactly the elements whose product with its idempotent is nilpotent
pub record AreIdempotentsOf (A : FiniteAlgebra) (spaces : List Subspace) (es : List (List ℕ)) : Type 0 where
  pub count : length es ≡ length spaces
  pub idempotents : AreIdempotents A es
  pub square : (i : ℕ) → i < length es → (elements A).◌≋◌ (times A (slice_index_or es i []) (slice_index_or es i [])) (slice_index_or es i [])
  pub own : (i : ℕ) → i < length es → DifferIn (at spaces i) (slice_index_or es i []) A.one
  pub others : (i j : ℕ) → i < length es → j < length es → i ≢ j → IsIn (at spaces j) (slice_index_or es i [])
  pub members : (i : ℕ) → i < length es → (x : List ℕ) → IsElement A x → IsIn (at spaces i) x ↔ IsNilpotent A (times A x (slice_index_or es i []))
