-- Elements that lie in the parts of idempotents, and coordinates by them.
use Rattle.std.specs.Prelude.{◌≡◌, ℕ, ◌<◌, List, [], length, slice_index, slice_index_or}
use Rattle.std.specs.List.{All}
use Rattle.finite_algebra.specs.Elements.{FiniteAlgebra, IsElement, elements, times}

-- beside each element stands the number of an idempotent whose product with it is the element
pub record IsFrame (A : FiniteAlgebra) (es us : List (List ℕ)) (numbers : List ℕ) : Type 0 where
  pub count : length numbers ≡ length us
  pub rows : All (IsElement A) us
  pub inside : (j : ℕ) → j < length us → (slice_index numbers j < length es) × (elements A).◌≋◌ (times A (slice_index_or us j []) (slice_index_or es (slice_index numbers j) [])) (slice_index_or us j [])

-- the places below n at which the number k stands, all of them
pub record ArePlacesOf (numbers : List ℕ) (n k : ℕ) (places : List ℕ) : Type 0 where
  pub within : (t : ℕ) → t < length places → slice_index places t < n
  pub own : (t : ℕ) → t < length places → slice_index numbers (slice_index places t) ≡ k
  pub all : (j : ℕ) → j < n → slice_index numbers j ≡ k → (t : ℕ) × (t < length places) × slice_index places t ≡ j
