-- The list of the images of products, by its two numbers.
use Rattle.std.proofs.Common.{◌≡◌, ℕ, suc, ◌+◌, ◌*◌, ◌-◌, ◌<◌, List, [], ◌∷◌, ◌++◌, length, length-append, take, drop, get_or, map, flat_map, All, refl, sym, ap, ap₂, ◌∙◌, arith, length-take, append-nil}
use Rattle.std.proofs.lemmas.Grind.{flat_map-append}
use Rattle.std.proofs.lemmas.List.{length-map, get_or-map, take_more}
use Rattle.std.proofs.lemmas.List.Concat.{get_or-flat_map, flat_map-cons}
use Rattle.std.proofs.lemmas.List.Elements.{All-nil, All-append, All-map}
use Rattle.row_space.specs.Echelon.{IsRow}
use Rattle.row_space.specs.Subspace.{product}
use Rattle.finite_algebra.specs.Projections.{images_of_products}
use Rattle.finite_algebra.proofs.Summing.{combination_fits, range-row}

flat_length : (f : ℕ → List (List ℕ)) (m : ℕ) (xs : List ℕ) → ((x : ℕ) → length (f x) ≡ m) → length (flat_map f xs) ≡ length xs * m
flat_length f m [] h = omega arith
flat_length f m (x ∷ xs) h = ap length (flat_map-cons f x xs) ∙ omega (arith, length-append (f x) (flat_map f xs), h x, flat_length f m xs h)

flat_fits : (P : List ℕ → Type 0) (f : ℕ → List (List ℕ)) (xs : List ℕ) → ((x : ℕ) → All P (f x)) → All P (flat_map f xs)
flat_fits P f [] h = All-nil P
flat_fits P f (x ∷ xs) h = All-append P (f x) (flat_map f xs) (h x) (flat_fits P f xs h)

-- maps of equal values
map_ext : (f g : ℕ → List ℕ) (xs : List ℕ) → ((i : ℕ) → i < length xs → f (get_or xs i 0) ≡ g (get_or xs i 0)) → map f xs ≡ map g xs
map_ext f g [] h = refl
map_ext f g (x ∷ xs) h = ap₂ ◌∷◌ (h 0 (omega arith)) (map_ext f g xs (λ i l. h (suc i) (omega arith)))

module _ (p n : ℕ) (products matrix : List (List ℕ)) (places : List ℕ) where
  abbrev m : ℕ
  m = length places

  abbrev row_at : ℕ → ℕ → List ℕ
  row_at a b = product p m (get_or products (a * n + b) []) matrix

  abbrev block : ℕ → List (List ℕ)
  block a = map (row_at a) places

  pub images_count : length (images_of_products p n products matrix places) ≡ m * m
  images_count = flat_length block m places (λ a. length-map places (row_at a))

  pub images_fit : 0 < p → All (IsRow p m) (images_of_products p n products matrix places)
  images_fit positive = flat_fits (IsRow p m) block places (λ a. All-map (IsRow p m) (row_at a) places (λ i d h. combination_fits p m positive _ matrix))

  pub images_are : (k l : ℕ) → k < m → l < m → get_or (images_of_products p n products matrix places) (k * m + l) [] ≡ row_at (get_or places k 0) (get_or places l 0)
  images_are k l h i =
      ap (λ q. get_or (images_of_products p n products matrix places) q []) (ap (λ q. q + l) (sym before))
      ∙ get_or-flat_map block places k l 0 [] h (let long : length (block (get_or places k 0)) ≡ m = length-map places (row_at (get_or places k 0)) in omega arith)
      ∙ get_or-map (row_at (get_or places k 0)) places l 0 [] i
    where
      before : length (flat_map block (take k places)) ≡ k * m
      before = flat_length block m (take k places) (λ a. length-map places (row_at a)) ∙ ap (λ q. q * m) (let e : length (take k places) ≡ k = simp length-take (omega arith) in e)

  -- one more block, from the rows of a range
  pub next_block : (i : ℕ) → i < m → (made : List (List ℕ)) → (new : List (List ℕ)) → made ≡ flat_map block (take i places)
      → ((b : ℕ) → b < m → get_or places b 0 < n)
      → new ≡ made ++ map (λ b. product p m (get_or (take (get_or places i 0 * n + n - get_or places i 0 * n) (drop (get_or places i 0 * n) products)) b []) matrix) places
      → new ≡ flat_map block (take (i + 1) places)
  next_block i h made new e within f =
      f ∙ ap₂ ◌++◌ e (map_ext _ _ places (λ b l. ap (λ row. product p m row matrix) (range-row products (get_or places i 0 * n) n (get_or places b 0) [] (within b l))))
      ∙ sym (ap (flat_map block) (take_more places i 0 h) ∙ flat_map-append block (take i places) (get_or places i 0 ∷ []) ∙ ap (λ b. flat_map block (take i places) ++ b) last)
    where
      last : flat_map block (get_or places i 0 ∷ []) ≡ block (get_or places i 0)
      last = flat_map-cons block (get_or places i 0) [] ∙ append-nil (block (get_or places i 0))
