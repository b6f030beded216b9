-- Rows of numbers modulo p.
use Rattle.std.specs.Prelude.{◌≡◌, ℕ, ◌+◌, ◌-◌, ◌*◌, ◌%◌, ◌<◌, List, map, slice_index}
use Rattle.comm_ring.specs.Sums.{below}
use Rattle.comm_ring.specs.Modules.{ModuleOps}

-- the row of one width with the entry f i at the index i
abbrev pub row_of : ℕ → (ℕ → ℕ) → List ℕ
row_of width f = map f (below width)

-- rows of one width: sums and multiples modulo p, entry by entry
abbrev pub rows : (p width : ℕ) → ModuleOps ℕ
rows p width = record {
  carrier = List ℕ;
  ◌≋◌ = λ x y. (i : ℕ) → i < width → slice_index x i % p ≡ slice_index y i % p;
  ◌⊞◌ = λ x y. row_of width (λ i. (slice_index x i + slice_index y i) % p);
  opposite = λ x. row_of width (λ i. (p - slice_index x i % p) % p);
  origin = row_of width (λ i. 0);
  ◌·◌ = λ c x. row_of width (λ i. (c * slice_index x i) % p);
}
