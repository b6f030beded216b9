-- Points that are sorted by distinct texts.
use Rattle.std.proofs.Common.{◌≡◌, ◌≢◌, ℕ, List, [], ◌∷◌, Bool, true, false, map, get_or, refl, sym, ap, ◌∙◌, subst, arith}
use Rattle.std.specs.Prelude.{nat_eq}
use Rattle.std.specs.List.{All, AllPairs}
use Rattle.std.specs.List.Sorted.{IsPermutation, IsSortedBy}
use Rattle.std.specs.Ordering.{is_lt, nat_cmp, ordering_reverse}
use Rattle.std.specs.Cmp.Lexicographic.{slice_cmp, pointwise, bytes_decides}
use Rattle.std.specs.declared.cmp.Ordering.{Ordering}
use Rattle.std.specs.declared.cmp.Ordering.TheVariants.{Less, Equal, Greater}
use Rattle.std.proofs.lemmas.Cmp.{nat_list_cmp_total, nat_list_eq_equiv}
use Rattle.std.proofs.lemmas.List.Elements.{All-map}
use Rattle.std.proofs.lemmas.List.MinMax.{ranks_by}
use Rattle.std.proofs.lemmas.List.Sorted.{sorted_far, All-permutation, IsPermutation-map}
use Rattle.std.proofs.lemmas.Map.Keys.{IsDistinct-IsPermutation}
use Rattle.std.proofs.lemmas.Map.Made.{AllPairs-from_IsDistinct, IsDistinct-from_AllPairs}
use Rattle.std.proofs.lemmas.Map.Lookups.{exact_bytes}
use Rattle.curve_model.specs.declared.point.Point.{Point}
use Rattle.named_points.specs.declared.ordering.TextPoint.{TextPoint}
use Rattle.named_points.specs.Ordering.{AreInTextOrder, Comes, own_text, with_own_text}
use Rattle.named_points.proofs.Pairs.{pairs_map, pairs_unmap}

abbrev pub key : TextPoint → List ℕ
key a = a.text

abbrev pub lt : TextPoint → TextPoint → Bool
lt a b = is_lt (slice_cmp nat_cmp (key a) (key b))

some_point : List ℕ → TextPoint
some_point text = record { point = record { basis = []; degree = 0 }; text = text }

-- items in another order have distinct texts too
moved : (xs ys : List TextPoint) → IsPermutation xs ys → AllPairs (λ a b. a.text ≢ b.text) xs → AllPairs (λ a b. a.text ≢ b.text) ys
moved xs ys same h =
    pairs_unmap (λ s t. s ≢ t) key ys
    (AllPairs-from_IsDistinct bytes_decides (map key ys)
    (IsDistinct-IsPermutation (pointwise nat_eq) nat_list_eq_equiv.symm (map key xs) (map key ys) (IsPermutation-map key xs ys same)
    (IsDistinct-from_AllPairs bytes_decides (map key xs) (pairs_map (λ s t. s ≢ t) key some_point xs h))))

-- sorted items with distinct texts rise
pub rising_from_sorted : (xs ys : List TextPoint) → IsPermutation xs ys → AllPairs (λ a b. a.text ≢ b.text) xs → IsSortedBy lt ys → AllPairs (λ a b. Comes a.text b.text) ys
rising_from_sorted xs ys same distinct sorted i j d less within = go (slice_cmp nat_cmp a b) refl
  where
    a : List ℕ
    a = key (get_or ys i d)

    b : List ℕ
    b = key (get_or ys j d)

    not_before : is_lt (slice_cmp nat_cmp b a) ≡ false
    not_before = sorted_far lt (ranks_by nat_list_cmp_total key) ys sorted i j d (omega arith) within

    go : (r : Ordering) → slice_cmp nat_cmp a b ≡ r → slice_cmp nat_cmp a b ≡ Less
    go Less e = e
    go Equal e = absurd (moved xs ys same distinct i j d less within (exact_bytes a b e))
    go Greater e =
        let turned : slice_cmp nat_cmp b a ≡ Less = nat_list_cmp_total.antisymm b a ∙ ap ordering_reverse e in
        let before : is_lt (slice_cmp nat_cmp b a) ≡ true = ap is_lt turned in
        absurd (let wrong : true ≡ false = sym before ∙ not_before in cc)

-- ---- points and their texts

-- the points of points with their texts
pub points_alone : (letters : List ℕ) (points : List Point) → map (λ a. a.point) (map (with_own_text letters) points) ≡ points
points_alone letters [] = refl
points_alone letters (P ∷ points) = ap (λ rest. P ∷ rest) (points_alone letters points)

-- each has its own text, in whatever order
pub own_texts : (letters : List ℕ) (points : List Point) (ts : List TextPoint) → IsPermutation (map (with_own_text letters) points) ts → All (λ a. a.text ≡ own_text letters a.point) ts
own_texts letters points ts same =
    All-permutation (λ a. a.text ≡ own_text letters a.point) (map (with_own_text letters) points) ts same
    (All-map (λ a. a.text ≡ own_text letters a.point) (with_own_text letters) points (λ i d l. refl))

-- points with their own texts in order
pub points_rise : (letters : List ℕ) (ts : List TextPoint) → All (λ a. a.text ≡ own_text letters a.point) ts → AllPairs (λ a b. Comes a.text b.text) ts
    → AreInTextOrder letters (map (λ a. a.point) ts)
points_rise letters ts own rising =
    pairs_map (λ P R. Comes (own_text letters P) (own_text letters R)) (λ a. a.point) (with_own_text letters) ts
    (λ i j d less within.
    subst (λ t. Comes (own_text letters (get_or ts i d).point) t) (own j d within)
    (subst (λ t. Comes t (get_or ts j d).text) (own i d (omega arith)) (rising i j d less within)))
