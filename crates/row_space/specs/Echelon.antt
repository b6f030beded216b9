-- Reduced rows with their pivots.
use Rattle.std.specs.Prelude.{◌≡◌, ◌≢◌, ℕ, ◌+◌, ◌-◌, ◌*◌, ◌%◌, ◌<◌, List, length, slice_index, map}
use Rattle.std.specs.List.{All}
use Rattle.lane_rows.specs.Rows.{AreResidues}
use Rattle.row_space.specs.Sums.{entry, weighted}

-- as many residues as a row has entries
abbrev pub IsRow : (p width : ℕ) → List ℕ → Type 0
IsRow p width row = (length row ≡ width) × AreResidues p row

-- each row is 0 before its pivot and 1 at it, and 0 at the pivots of the others
pub record IsEchelon (p width : ℕ) (us : List (List ℕ)) (pivots : List ℕ) : Type 0 where
  pub count : length pivots ≡ length us
  pub rows : All (IsRow p width) us
  pub within : (i : ℕ) → i < length us → slice_index pivots i < width
  pub own : (i : ℕ) → i < length us → entry us i (slice_index pivots i) ≡ 1
  pub others : (i j : ℕ) → i < length us → j < length us → i ≢ j → entry us i (slice_index pivots j) ≡ 0
  pub before : (i k : ℕ) → i < length us → k < slice_index pivots i → entry us i k ≡ 0

-- the row's entries at the pivots
abbrev pub entries_at : List ℕ → List ℕ → List ℕ
entries_at pivots row = map (λ q. slice_index row q) pivots

-- the rest together with the multiples of us that the entries of row at the pivots say is row, and the rest is 0 at the pivots
pub record IsRest (p width : ℕ) (us : List (List ℕ)) (pivots row rest : List ℕ) : Type 0 where
  pub sum : (k : ℕ) → k < width → (slice_index rest k + weighted (entries_at pivots row) us k) % p ≡ slice_index row k
  pub zero : (j : ℕ) → j < length us → slice_index rest (slice_index pivots j) ≡ 0

-- of each row the multiple of the pivot row is taken that makes it 0 at the pivot
pub record IsCleared (p width pivot : ℕ) (row : List ℕ) (us vs : List (List ℕ)) : Type 0 where
  pub rows : All (IsRow p width) vs
  pub entries : (i k : ℕ) → i < length us → k < width → entry vs i k ≡ (entry us i k + (p - entry us i pivot) * slice_index row k) % p
