-- Two lists that rise and have the same members are equal.
use Rattle.std.proofs.Common.{◌≡◌, ℕ, zero, suc, ◌<◌, List, [], ◌∷◌, map, length, slice_index_or, refl, sym, ap, ◌∙◌, subst, arith}
use Rattle.std.specs.List.{Contains, AllPairs}
use Rattle.std.specs.Ordering.{nat_cmp, ordering_reverse}
use Rattle.std.specs.Cmp.Lexicographic.{slice_cmp, nat_list_cmp_total}
use Rattle.std.specs.declared.cmp.Ordering.{Ordering}
use Rattle.std.specs.declared.cmp.Ordering.TheVariants.{Less}
use Rattle.std.proofs.lemmas.List.{get_or-map, length-map}
use Rattle.poly_text.specs.PolyText.{list_text}
use Rattle.norm_text.specs.Named.{OneNamedList}

-- ---- over a strict order

module _ {X : Type 0} (B : X → X → Type 0) (asymmetric : (x y : X) → B x y → B y x → ⊥) where
  no_member : (x : X) → Contains [] x → ⊥
  no_member x (k, within, e) = omega arith

  -- the first member comes before each other one
  first_before : (x : X) (xs : List X) → AllPairs B (x ∷ xs) → (z : X) → Contains xs z → B x z
  first_before x xs p z (k, within, e) = subst (B x) e (p zero (suc k) z (omega arith) (omega arith))

  by_place : (y : X) (ys : List X) (z : X) (P : Type 0) → (y ≡ z → P) → (Contains ys z → P) → Contains (y ∷ ys) z → P
  by_place y ys z P here there (zero, within, e) = here e
  by_place y ys z P here there (suc k, within, e) = there (k, omega arith, e)

  behind : (x : X) (xs : List X) (z : X) → Contains xs z → Contains (x ∷ xs) z
  behind x xs z (k, within, e) = (suc k, omega arith, e)

  rest_rises : (x : X) (xs : List X) → AllPairs B (x ∷ xs) → AllPairs B xs
  rest_rises x xs p i j d less within = p (suc i) (suc j) d (omega arith) (omega arith)

  one_rising : (xs ys : List X) → AllPairs B xs → AllPairs B ys → ((z : X) → Contains xs z → Contains ys z) → ((z : X) → Contains ys z → Contains xs z) → xs ≡ ys
  one_rising [] [] p q f g = refl
  one_rising [] (y ∷ ys) p q f g = absurd (no_member y (g y (zero, omega arith, refl)))
  one_rising (x ∷ xs) [] p q f g = absurd (no_member x (f x (zero, omega arith, refl)))
  one_rising (x ∷ xs) (y ∷ ys) p q f g =
      (λ i. first i ∷ one_rising xs ys (rest_rises x xs p) (rest_rises y ys q) forth back i)
    where
      -- the first members are equal
      first : x ≡ y
      first =
          by_place y ys x (x ≡ y) (λ e. sym e)
          (λ c. by_place x xs y (x ≡ y) (λ e. e) (λ d. absurd (asymmetric x y (first_before x xs p y d) (first_before y ys q x c))) (g y (zero, omega arith, refl)))
          (f x (zero, omega arith, refl))

      forth : (z : X) → Contains xs z → Contains ys z
      forth z c =
          by_place y ys z (Contains ys z)
          (λ e. absurd (let b = subst (λ t. B t z) (first ∙ e) (first_before x xs p z c) in asymmetric z z b b)) (λ d. d)
          (f z (behind x xs z c))

      back : (z : X) → Contains ys z → Contains xs z
      back z c =
          by_place x xs z (Contains xs z)
          (λ e. absurd (let b = subst (λ t. B t z) (sym first ∙ e) (first_before y ys q z c) in asymmetric z z b b)) (λ d. d)
          (g z (behind y ys z c))

-- ---- by texts

not_both_less : (r : Ordering) → r ≡ Less → ordering_reverse r ≡ Less → ⊥
not_both_less r e h = absurd (let same : ordering_reverse Less ≡ Less = ap ordering_reverse (sym e) ∙ h in cc)

text_asymmetric : (a b : List ℕ) → slice_cmp nat_cmp a b ≡ Less → slice_cmp nat_cmp b a ≡ Less → ⊥
text_asymmetric a b e h = not_both_less (slice_cmp nat_cmp b a) h (sym (nat_list_cmp_total.antisymm a b) ∙ e)

module _ {X : Type 0} (text : X → List ℕ) where
  abbrev Before : X → X → Type 0
  Before x y = slice_cmp nat_cmp (text x) (text y) ≡ Less

  rises : (xs : List X) → AllPairs (λ a b. slice_cmp nat_cmp a b ≡ Less) (map text xs) → AllPairs Before xs
  rises xs p i j d less within =
      let inside : i < length xs = omega arith in
      let long : j < length (map text xs) = subst (λ n. j < n) (sym (length-map xs text)) within in
      let first : slice_index_or (map text xs) i (text d) ≡ text (slice_index_or xs i d) = get_or-map text xs i d (text d) inside in
      let second : slice_index_or (map text xs) j (text d) ≡ text (slice_index_or xs j d) = get_or-map text xs j d (text d) within in
      subst (λ a. slice_cmp nat_cmp a (text (slice_index_or xs j d)) ≡ Less) first
      (subst (λ b. slice_cmp nat_cmp (slice_index_or (map text xs) i (text d)) b ≡ Less) second (p i j (text d) less long))

pub one_list : OneNamedList
one_list problem A S T s t =
    one_rising (Before (list_text problem.prime problem.letters)) (λ x y e h. text_asymmetric (list_text problem.prime problem.letters x) (list_text problem.prime problem.letters y) e h) S T
    (rises (list_text problem.prime problem.letters) S s.rising) (rises (list_text problem.prime problem.letters) T t.rising)
    (λ z c. (t.all z).1 ((s.all z).0 c)) (λ z c. (s.all z).1 ((t.all z).0 c))
