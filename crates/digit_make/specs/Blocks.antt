-- The digits of a polynomial block by block: its expansion by powers of d.
use Rattle.std.specs.Prelude.{◌≡◌, ℕ, suc, ◌+◌, ◌*◌, ◌<◌, ◌≤◌, List, length, slice_index, slice_index_or, All}
use Rattle.monomials.specs.Mono.{Monomial, unit}
use Rattle.polys.specs.declared.term.Term.{Term}
use Rattle.polys.specs.Curve.{CurveData}
use Rattle.row_space.specs.Echelon.{IsRow}
use Rattle.standard_monomials.specs.Standard.{polynomial_of}
use Rattle.digit_laws.specs.Digits.{AreDigits}

-- the block of d^t in the digits of f
pub record IsBlock (A : CurveData) (ms : List Monomial) (t : ℕ) (f : List Term) (block : List ℕ) : Type 0 where
  pub fits : IsRow A.prime (length ms) block
  pub row : List ℕ
  pub digits : AreDigits A ms (suc t) f row
  pub last : (i : ℕ) → i < length ms → slice_index row (length ms * t + i) ≡ slice_index block i

-- the row has the digits of the monomial at some depth
abbrev pub IsKnown : CurveData → List Monomial → Monomial → List ℕ → Type 0
IsKnown A ms m row = (T : ℕ) × AreDigits A ms T (polynomial_of m) row

-- the rows have the digits of the monomials, each at a depth of its own
pub record AreKnown (A : CurveData) (ms : List Monomial) (monomials : List Monomial) (rows : List (List ℕ)) : Type 0 where
  pub count : length rows ≡ length monomials
  pub each : (j : ℕ) (d : List ℕ) → j < length monomials → IsKnown A ms (slice_index_or monomials j unit) (slice_index_or rows j d)

-- the row has whole blocks of n entries, at least as many as the first bound and at most as many as the second
pub record HasBlocks (n least most : ℕ) (row : List ℕ) : Type 0 where
  pub count : ℕ
  pub enough : least ≤ count
  pub within : count ≤ most
  pub whole : length row ≡ n * count

-- each row has blocks of n entries
abbrev pub HaveBlocks : (n least most : ℕ) → List (List ℕ) → Type 0
HaveBlocks n least most rows = All (HasBlocks n least most) rows

-- each row has t blocks of n entries, and the first j rows one more
pub record AreGrown (n t most j : ℕ) (rows : List (List ℕ)) : Type 0 where
  pub all : (k : ℕ) (d : List ℕ) → k < length rows → HasBlocks n t most (slice_index_or rows k d)
  pub first : (k : ℕ) (d : List ℕ) → k < j → k < length rows → HasBlocks n (t + 1) most (slice_index_or rows k d)

-- each row has the length
abbrev pub AreLong : ℕ → List (List ℕ) → Type 0
AreLong long rows = All (λ row. length row ≡ long) rows
