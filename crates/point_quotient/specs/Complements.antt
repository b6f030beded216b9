-- Complements of a space of rows in a greater one.
use Rattle.std.specs.Prelude.{◌≡◌, ℕ, ◌<◌, List, [], length, slice_index_or, All}
use Rattle.comm_ring.specs.Modules.{combination}
use Rattle.comm_ring.specs.Rows.{rows}
use Rattle.row_space.specs.Echelon.{IsRow}
use Rattle.row_space.specs.Subspace.{Subspace, FitsIn, IsIn, DifferIn, IsZeroAtPivots, IsReduced}

-- the second row differs from the first one by a row of the part, and is 0 at the part's pivots
pub record IsRestModulo (part : Subspace) (row rest : List ℕ) : Type 0 where
  pub fits : FitsIn part rest
  pub same : DifferIn part row rest
  pub zero : IsZeroAtPivots part rest

-- the rests of the first n rows
pub record AreFirstRests (part : Subspace) (n : ℕ) (list made : List (List ℕ)) : Type 0 where
  pub count : length made ≡ n
  pub each : (i : ℕ) → i < n → IsRestModulo part (slice_index_or list i []) (slice_index_or made i [])

-- the rests of all rows
abbrev pub AreRests : Subspace → List (List ℕ) → List (List ℕ) → Type 0
AreRests part list made = AreFirstRests part (length list) list made

-- rows of the whole that span it modulo the part and are independent modulo the part, each 0 at the part's pivots
pub record IsComplement (part whole made : Subspace) : Type 0 where
  pub part_prime : part.prime ≡ whole.prime
  pub part_width : part.width ≡ whole.width
  pub prime : made.prime ≡ whole.prime
  pub width : made.width ≡ whole.width
  pub reduced : IsReduced made
  pub inside : All (IsIn whole) made.basis
  pub pivots : All (IsZeroAtPivots part) made.basis
  pub onto : (row : List ℕ) → FitsIn whole row → IsIn whole row
      → (x : List ℕ) × IsRow whole.prime (length made.basis) x
      × DifferIn part row (combination (rows whole.prime whole.width) x made.basis)
  pub zero : (x : List ℕ) → IsRow whole.prime (length made.basis) x
      → IsIn part (combination (rows whole.prime whole.width) x made.basis) → All (λ c. c ≡ 0) x

-- the row is in a space in which made is a complement of the part
abbrev pub IsInWhole : Subspace → Subspace → List ℕ → Type 0
IsInWhole part made row = (whole : Subspace) × IsComplement part whole made × FitsIn whole row × IsIn whole row

-- the row differs by a row of the part from the sum of the multiples of made's rows by these residues
pub record AreCoordinates (part made : Subspace) (row x : List ℕ) : Type 0 where
  pub fit : IsRow part.prime (length made.basis) x
  pub same : DifferIn part row (combination (rows part.prime part.width) x made.basis)
