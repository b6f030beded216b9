-- Sums of multiples of rows, entry by entry.
use Rattle.std.specs.Prelude.{◌≡◌, ℕ, ◌+◌, ◌*◌, ◌%◌, ◌<◌, List, [], ◌∷◌, ◌++◌, length, slice_index, slice_index_or}

-- the entry at the place k of the row number i
abbrev pub entry : List (List ℕ) → ℕ → ℕ → ℕ
entry us i k = slice_index (slice_index_or us i []) k

-- c_1 u_1 + .. + c_n u_n at the place k, as a number
abbrev pub weighted : List ℕ → List (List ℕ) → ℕ → ℕ
weighted [] us k = 0
weighted (c ∷ cs) [] k = 0
weighted (c ∷ cs) (u ∷ us) k = c * slice_index u k + weighted cs us k

-- modulo p, the first width values of f are those of a sum of multiples of the rows
abbrev pub IsWeighted : (p width : ℕ) → List (List ℕ) → (ℕ → ℕ) → Type 0
IsWeighted p width us f = (cs : List ℕ) × (length cs ≡ length us) × ((k : ℕ) → k < width → f k % p ≡ weighted cs us k % p)

-- each row of vs is a sum of multiples of the rows us
abbrev pub Covers : (p width : ℕ) (us vs : List (List ℕ)) → Type 0
Covers p width us vs = (i : ℕ) → i < length vs → IsWeighted p width us (entry vs i)

-- each row of the first list followed by the row of the second one at its place
abbrev pub side_by_side : List (List ℕ) → List (List ℕ) → List (List ℕ)
side_by_side [] rs = []
side_by_side (l ∷ ls) [] = []
side_by_side (l ∷ ls) (r ∷ rs) = (l ++ r) ∷ side_by_side ls rs

-- f is the right part of a sum of multiples of the rows whose left part is 0
abbrev pub IsRightPart : (p left width : ℕ) → List (List ℕ) → (ℕ → ℕ) → Type 0
IsRightPart p left width us f =
    (g : ℕ → ℕ) × IsWeighted p (left + width) us g × ((k : ℕ) → k < left → g k % p ≡ 0 % p) × ((k : ℕ) → k < width → f k % p ≡ g (left + k) % p)
