-- Rows whose polynomials are taken into an ideal.
use Rattle.std.specs.Prelude.{◌≡◌, ℕ, ◌+◌, ◌*◌, ◌%◌, ◌<◌, List, [], ◌++◌, length, replicate, slice_index, slice_index_or}
use Rattle.monomials.specs.Mono.{Monomial}
use Rattle.polys.specs.declared.term.Term.{Term}
use Rattle.polys.specs.Terms.{mul}
use Rattle.polys.specs.Curve.{CurveData}
use Rattle.row_space.specs.Subspace.{Subspace, IsIn, product}
use Rattle.digit_laws.specs.Digits.{value, AreDigits}

-- q times the row's polynomial is, modulo I and d^2T, d^T times a polynomial with digits in the space: its digits are T
-- blocks of zeros and then a row of the space
pub record IsTaken (A : CurveData) (ms : List Monomial) (T : ℕ) (space : Subspace) (q : List Term) (row : List ℕ) : Type 0 where
  pub rest : List ℕ
  pub inside : IsIn space rest
  pub digits : AreDigits A ms (T + T) (mul A.prime q (value A ms T row)) (replicate (length ms * T) 0 ++ rest)

-- ---- parts of the work

-- the row is a sum of multiples of the rows, and the sum of the same multiples of the images is in the space
abbrev pub IsTakenSum : Subspace → List (List ℕ) → ℕ → List (List ℕ) → List ℕ → Type 0
IsTakenSum space images width rows row =
    (v : List ℕ) × (length v ≡ length images) × IsIn space (product space.prime space.width v images)
    × ((k : ℕ) → k < width → slice_index row k % space.prime ≡ slice_index (product space.prime width v rows) k % space.prime)

-- the digits, of 2T blocks, of q times the polynomial of each row
pub record AreProducts (A : CurveData) (ms : List Monomial) (T : ℕ) (q : List Term) (rows images : List (List ℕ)) : Type 0 where
  pub count : length images ≡ length rows
  pub each : (i : ℕ) → i < length rows
      → AreDigits A ms (T + T) (mul A.prime q (value A ms T (slice_index_or rows i []))) (slice_index_or images i [])
