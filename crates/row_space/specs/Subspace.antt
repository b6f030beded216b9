-- Subspaces of the rows of one length over the field of p elements.
use Rattle.std.specs.Prelude.{◌≡◌, ℕ, ◌+◌, ◌%◌, ◌<◌, ◌↔◌, List, [], ◌∷◌, ◌++◌, length, slice_index, slice_index_or}
use Rattle.comm_ring.specs.Modules.{ModuleOps, InSpan, combination}
use Rattle.comm_ring.specs.Rows.{rows}
use Rattle.lane_rows.specs.Rows.{IsFirstNonzero}
use Rattle.row_space.specs.Sums.{weighted, IsWeighted, Covers}
use Rattle.row_space.specs.Echelon.{IsRow, IsEchelon}

-- a space of rows: the prime, the length of a row, and rows that span it
pub record Subspace : Type 0 where
  pub prime : ℕ
  pub width : ℕ
  pub basis : List (List ℕ)

-- the rows of the space's length, with their sums and multiples modulo p
abbrev pub all_rows : Subspace → ModuleOps ℕ
all_rows space = rows space.prime space.width

-- residues, as many as a row of the space has entries
abbrev pub FitsIn : Subspace → List ℕ → Type 0
FitsIn space row = IsRow space.prime space.width row

-- the row is a sum of multiples of the basis
abbrev pub IsIn : Subspace → List ℕ → Type 0
IsIn space row = InSpan (all_rows space) space.basis row

-- the row is the sum of the basis rows, each times its residue
pub record IsSumOfBasis (space : Subspace) (residues row : List ℕ) : Type 0 where
  pub fit : IsRow space.prime (length space.basis) residues
  pub sum : ModuleOps.◌≋◌ (all_rows space) row (combination (all_rows space) residues space.basis)

-- the two rows differ by a row of the space
abbrev pub DifferIn : Subspace → List ℕ → List ℕ → Type 0
DifferIn space row other = let V = all_rows space in IsIn space (V.◌⊞◌ row (V.opposite other))

-- the row is 0 wherever a row of the basis has its first entry that is not 0
abbrev pub IsZeroAtPivots : Subspace → List ℕ → Type 0
IsZeroAtPivots space row = (i pivot : ℕ) → i < length space.basis → IsFirstNonzero (slice_index_or space.basis i []) pivot → slice_index row pivot ≡ 0

-- the basis is in reduced echelon form, up to the order of its rows
abbrev pub IsReduced : Subspace → Type 0
IsReduced space = (pivots : List ℕ) × IsEchelon space.prime space.width space.basis pivots

-- the new space is the sum of the old one and the multiples of the row
pub record Gains (old : Subspace) (row : List ℕ) (new : Subspace) : Type 0 where
  pub prime : new.prime ≡ old.prime
  pub width : new.width ≡ old.width
  pub more : length new.basis ≡ length old.basis + 1
  pub members : (f : List ℕ) → IsIn new f ↔ InSpan (all_rows old) (row ∷ old.basis) f

-- the new space is spanned by the old basis and the rows
pub record Joins (old : Subspace) (vs : List (List ℕ)) (new : Subspace) : Type 0 where
  pub prime : new.prime ≡ old.prime
  pub width : new.width ≡ old.width
  pub covers : Covers old.prime old.width new.basis (old.basis ++ vs)
  pub covered : Covers old.prime old.width (old.basis ++ vs) new.basis

-- v times the matrix: the sum of its rows, each times its entry of v
abbrev pub product : (p width : ℕ) → List ℕ → List (List ℕ) → List ℕ
product p width v matrix = combination (rows p width) v matrix

-- v times the images, for a v that the matrix takes into the space
abbrev pub IsImage : Subspace → (width : ℕ) (matrix images : List (List ℕ)) → (ℕ → ℕ) → Type 0
IsImage space width matrix images f =
    (v : List ℕ) × (length v ≡ length matrix) × IsWeighted space.prime space.width space.basis (weighted v matrix) × ((k : ℕ) → k < width → f k % space.prime ≡ weighted v images k % space.prime)

-- the row is a row of the one space plus a row of the other
abbrev pub IsSumOf : Subspace → Subspace → List ℕ → Type 0
IsSumOf one other row = (f : List ℕ) × (g : List ℕ) × IsIn one f × IsIn other g × (let V = all_rows one in V.◌≋◌ row (V.◌⊞◌ f g))

-- the row is 0 in the module of rows
abbrev pub IsZero : (p width : ℕ) → List ℕ → Type 0
IsZero p width row = let V = rows p width in V.◌≋◌ row V.origin
