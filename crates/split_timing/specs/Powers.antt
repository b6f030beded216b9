-- The powers of x in the algebra of polynomials modulo x^n - r, where r has n coefficients.
use Rattle.std.specs.Prelude.{◌≡◌, ℕ, suc, ◌+◌, ◌/◌, ◌%◌, ◌<◌, ◌≤◌, List, [], length, slice_index_or}
use Rattle.std.specs.List.{All}
use Rattle.row_space.specs.Echelon.{IsRow}
use Rattle.row_space.specs.Subspace.{product}
use Rattle.finite_algebra.specs.Elements.{unit_row}

-- row k is the product of x and x^k: the next power, and r after the last one
pub record IsStep (p : ℕ) (r : List ℕ) (matrix : List (List ℕ)) : Type 0 where
  pub count : length matrix ≡ length r
  pub rows : All (IsRow p (length r)) matrix
  pub next : (k : ℕ) → suc k < length r → slice_index_or matrix k [] ≡ unit_row (length r) (suc k)
  pub last : (k : ℕ) → suc k ≡ length r → slice_index_or matrix k [] ≡ r

-- so many powers: the first n are the basis, and each further one is the one before it times the matrix
pub record ArePowersOfX (p n : ℕ) (matrix : List (List ℕ)) (many : ℕ) (powers : List (List ℕ)) : Type 0 where
  pub count : length powers ≡ many
  pub rows : All (IsRow p n) powers
  pub first : (k : ℕ) → k < n → k < many → slice_index_or powers k [] ≡ unit_row n k
  pub next : (k : ℕ) → n ≤ suc k → suc k < many → slice_index_or powers (suc k) [] ≡ product p n (slice_index_or powers k []) matrix

-- n * n rows; the row i * n + j is the power i + j
pub record AreProductsOfPowers (n : ℕ) (powers : List (List ℕ)) (many : ℕ) (products : List (List ℕ)) : Type 0 where
  pub count : length products ≡ many
  pub each : (k : ℕ) → k < many → slice_index_or products k [] ≡ slice_index_or powers (k / n + k % n) []
