-- Inverse matrices, rows at places and what is left of unit rows.
use Rattle.std.specs.Prelude.{◌≡◌, ℕ, ◌<◌, List, [], length, slice_index, slice_index_or}
use Rattle.std.specs.List.{All}
use Rattle.row_space.specs.Echelon.{IsRow}
use Rattle.row_space.specs.Subspace.{product}
use Rattle.finite_algebra.specs.Elements.{unit_row}
use Rattle.row_matrices.specs.Rows.{IsLess}

-- each row times the other matrix is the unit row with its number
abbrev pub GivesUnits : (p n : ℕ) (rows matrix : List (List ℕ)) → Type 0
GivesUnits p n rows matrix = (j : ℕ) → j < n → product p n (slice_index_or rows j []) matrix ≡ unit_row n j

-- n rows of n residues, and the inverse of their matrix
pub record IsInverse (p n : ℕ) (rows inverse : List (List ℕ)) : Type 0 where
  pub long : length rows ≡ n
  pub count : length inverse ≡ n
  pub fits : All (IsRow p n) inverse
  pub left : GivesUnits p n rows inverse
  pub right : GivesUnits p n inverse rows

-- the rows with these numbers
pub record AreRowsAt (us : List (List ℕ)) (places : List ℕ) (made : List (List ℕ)) : Type 0 where
  pub count : length made ≡ length places
  pub rows : (t : ℕ) → t < length places → slice_index_or made t [] ≡ slice_index_or us (slice_index places t) []

-- the unit rows with these numbers
pub record AreUnitsAt (n : ℕ) (places : List ℕ) (made : List (List ℕ)) : Type 0 where
  pub count : length made ≡ length places
  pub rows : (t : ℕ) → t < length places → slice_index_or made t [] ≡ unit_row n (slice_index places t)

-- the unit row i without the sum of the units, each times its entry of the product of the row with the inverse
abbrev pub IsRest : (p n i : ℕ) (row : List ℕ) (inverse units : List (List ℕ)) → List ℕ → Type 0
IsRest p n i row inverse units made = IsLess p n (unit_row n i) 1 (product p n (product p (length units) row inverse) units) made

-- the same for each row
pub record AreRests (p : ℕ) (us inverse units : List (List ℕ)) (k : ℕ) (made : List (List ℕ)) : Type 0 where
  pub count : length made ≡ k
  pub rows : All (IsRow p (length us)) made
  pub rests : (i : ℕ) → i < k → IsRest p (length us) i (slice_index_or us i []) inverse units (slice_index_or made i [])
