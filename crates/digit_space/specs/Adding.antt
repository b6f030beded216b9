-- Sums of rows of products, entry by entry.
use Rattle.std.specs.Prelude.{◌≡◌, ◌⊎◌, ℕ, suc, ◌+◌, ◌*◌, ◌<◌, List, [], ◌∷◌, ◌++◌, map, length, replicate, slice_index, slice_index_or, Option}
use Rattle.lane_rows.specs.Rows.{AreResidues}
use Rattle.polys.specs.declared.term.Term.{Term}
use Rattle.polys.specs.Terms.{mul}
use Rattle.polys.specs.Ideal.{number_combination}
use Rattle.standard_monomials.specs.Standard.{polynomial_of}
use Rattle.digit_space.specs.Model.{DigitData, AreFirstDigits, IsDigitsOf, corner, kept_at, value_of}
use Rattle.digit_space.specs.declared.products.Product.{Product}
use Rattle.digit_space.specs.declared.products.Product.TheVariants.{Corner, Border}

-- 1 at the place j, after zeros
abbrev pub unit_at : ℕ → List ℕ
unit_at j = replicate j 0 ++ 1 ∷ []

-- the digits of a product without zeros at the end: 1 at the corner's place, or the border row
abbrev pub product_row : List (List ℕ) → Product → List ℕ
product_row border (Corner j) = unit_at j
product_row border (Border r) = slice_index_or border r []

-- those of the products from a number on
abbrev pub rows_from : List (List ℕ) → Option (List Product) → ℕ → ℕ → List ℕ
rows_from border products first i = product_row border (kept_at products (first + i))

-- the sum of the entries at t of the rows f 0, f 1, .., each times its number of the list
abbrev pub sum_at : List ℕ → (ℕ → List ℕ) → ℕ → ℕ
sum_at [] f t = 0
sum_at (c ∷ cs) f t = c * slice_index (f 0) t + sum_at cs (λ i. f (suc i)) t

-- the product is a place below the number of the corners, or a border row, and that has residues
abbrev pub IsWithin : ℕ → ℕ → List (List ℕ) → Product → Type 0
IsWithin p corners border (Corner j) = j < corners
IsWithin p corners border (Border r) = (r < length border) × AreResidues p (slice_index_or border r [])

-- the row is 0 at the corner's place in each block
abbrev pub IsUnused : DigitData → List ℕ → ℕ → Type 0
IsUnused g row i = (t : ℕ) → t < g.depth → slice_index row (t * length g.basis + i) ≡ 0

-- a corner is unused, or f i has the digits of q times it
abbrev pub HasMultiples : DigitData → List Term → List ℕ → (ℕ → List ℕ) → Type 0
HasMultiples g q row f = (i : ℕ) → i < length g.basis → IsUnused g row i ⊎ AreFirstDigits g (mul g.curve.prime q (polynomial_of (corner g i))) (f i)

-- the row's polynomial times the corner with this number
abbrev pub corner_multiple : DigitData → List ℕ → ℕ → List Term
corner_multiple g row i = mul g.curve.prime (value_of g row) (polynomial_of (corner g i))

-- one row for each corner: the digits of q times it
abbrev pub AreMultiples : DigitData → List Term → List (List ℕ) → Type 0
AreMultiples g q rows = (i : ℕ) → i < length g.basis → IsDigitsOf g (mul g.curve.prime q (polynomial_of (corner g i))) (slice_index_or rows i [])

-- the corners, each times its entry of the block
abbrev pub corner_sum : DigitData → List ℕ → List Term
corner_sum g block = number_combination g.curve.prime block (map polynomial_of g.basis)
