-- Operations on rows of residues, entry by entry.
use Rattle.std.specs.Prelude.{◌≡◌, ℕ, ◌+◌, ◌*◌, ◌%◌, ◌<◌, ◌≢◌, List, [], ◌∷◌, map, length, slice_index}
use Rattle.std.specs.List.{All}
use Rattle.std.specs.Simd.Lanes.{zip2}

-- each entry is below p
abbrev pub AreResidues : ℕ → List ℕ → Type 0
AreResidues p xs = All (λ x. x < p) xs

-- each entry times c, modulo p
abbrev pub multiple : (p c : ℕ) → List ℕ → List ℕ
multiple p c xs = map (λ x. (c * x) % p) xs

-- each entry of the first row with c times the second row's entry at its place, modulo p
abbrev pub plus_multiple : (p c : ℕ) → List ℕ → List ℕ → List ℕ
plus_multiple p c xs ys = zip2 (λ x y. (x + c * y) % p) xs ys

-- the sum of the products of the entries at the same place
abbrev pub sum_of_products : List ℕ → List ℕ → ℕ
sum_of_products [] ys = 0
sum_of_products (x ∷ xs) [] = 0
sum_of_products (x ∷ xs) (y ∷ ys) = x * y + sum_of_products xs ys

-- each entry is 0
abbrev pub IsZeroRow : List ℕ → Type 0
IsZeroRow xs = All (λ x. x ≡ 0) xs

-- the least place whose entry is not 0
pub record IsFirstNonzero (xs : List ℕ) (place : ℕ) : Type 0 where
  pub within : place < length xs
  pub nonzero : slice_index xs place ≢ 0
  pub before : (k : ℕ) → k < place → slice_index xs k ≡ 0
