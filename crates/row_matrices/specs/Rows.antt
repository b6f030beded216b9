-- Multiples of rows, and what is left of them.
use Rattle.std.specs.Prelude.{◌≡◌, ℕ, ◌<◌, List, [], length, slice_index_or}
use Rattle.std.specs.List.{All}
use Rattle.comm_ring.specs.Rows.{rows as rows_of}
use Rattle.row_space.specs.Echelon.{IsRow}
use Rattle.finite_algebra.specs.Elements.{unit_row}

-- the row is c times the other
pub record IsScaled (p width c : ℕ) (row made : List ℕ) : Type 0 where
  pub fits : IsRow p width made
  pub is : let V = rows_of p width in V.◌≋◌ made (V.◌·◌ c row)

-- the row is the first one without c times the second
pub record IsLess (p width : ℕ) (row : List ℕ) (c : ℕ) (other made : List ℕ) : Type 0 where
  pub fits : IsRow p width made
  pub is : let V = rows_of p width in V.◌≋◌ made (V.◌⊞◌ row (V.opposite (V.◌·◌ c other)))

-- each row of the matrix without c at its own place
pub record AreLess (p c : ℕ) (matrix made : List (List ℕ)) : Type 0 where
  pub count : length made ≡ length matrix
  pub rows : All (IsRow p (length matrix)) made
  pub less : (k : ℕ) → k < length matrix → let V = rows_of p (length matrix) in V.◌≋◌ (slice_index_or made k []) (V.◌⊞◌ (slice_index_or matrix k []) (V.opposite (V.◌·◌ c (unit_row (length matrix) k))))
