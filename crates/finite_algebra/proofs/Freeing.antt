-- The list of the free places grows by one number, or stays.
use Rattle.std.proofs.Common.{◌≡◌, ◌≢◌, ℕ, ◌+◌, ◌<◌, ◌≤◌, List, [], ◌∷◌, ◌++◌, length, length-append, get_or, subst, sym, ap, ◌∙◌, arith, ⊎_elim}
use Rattle.std.proofs.lemmas.Bool.{cases_lt, cases_eq}
use Rattle.std.proofs.lemmas.List.{get_or_append_left, get_or_push}
use Rattle.row_space.specs.Sums.{entry}
use Rattle.finite_algebra.specs.Projections.{AreFree}

pub free_none : (us : List (List ℕ)) → AreFree us 0 []
free_none us = record { within = λ a h. absurd (omega arith); nonzero = λ a h. absurd (omega arith); once = λ a b h. absurd (omega arith); all = λ k h. absurd (omega arith) }

pub free_same : (us : List (List ℕ)) (k : ℕ) (places : List ℕ) → entry us k k ≡ 0 → AreFree us k places → AreFree us (k + 1) places
free_same us k places zero f = record {
  within = λ a h. omega (arith, f.within a h);
  nonzero = f.nonzero;
  once = f.once;
  all = λ j h d. ⊎_elim
      (λ (e : j ≡ k). absurd (d (ap (λ i. entry us i i) e ∙ zero)))
      (λ (n : j ≢ k). f.all j (omega arith) d)
      (cases_eq j k);
}

pub free_more : (us : List (List ℕ)) (k : ℕ) (places : List ℕ) → entry us k k ≢ 0 → AreFree us k places → AreFree us (k + 1) (places ++ k ∷ [])
free_more us k places nonzero f = record {
  within = λ a h. ⊎_elim
      (λ (b : a < length places). subst (λ q. q < k + 1) (sym (old a b)) (omega (arith, f.within a b)))
      (λ (b : length places ≤ a). subst (λ q. q < k + 1) (sym (new a (last a h b))) (omega arith))
      (cases_lt a (length places));
  nonzero = λ a h. ⊎_elim
      (λ (b : a < length places). subst (λ q. entry us q q ≢ 0) (sym (old a b)) (f.nonzero a b))
      (λ (b : length places ≤ a). subst (λ q. entry us q q ≢ 0) (sym (new a (last a h b))) nonzero)
      (cases_lt a (length places));
  once = λ a b h l e. ⊎_elim
      (λ (i : a < length places). ⊎_elim
      (λ (j : b < length places). f.once a b i j (sym (old a i) ∙ e ∙ old b j))
      (λ (j : length places ≤ b). absurd (let s = sym (old a i) ∙ e ∙ new b (last b l j) in omega (arith, f.within a i)))
      (cases_lt b (length places)))
      (λ (i : length places ≤ a). ⊎_elim
      (λ (j : b < length places). absurd (let s = sym (old b j) ∙ sym e ∙ new a (last a h i) in omega (arith, f.within b j)))
      (λ (j : length places ≤ b). last a h i ∙ sym (last b l j))
      (cases_lt b (length places)))
      (cases_lt a (length places));
  all = λ j h d. ⊎_elim
      (λ (e : j ≡ k). (length places, omega (arith, length-append places (k ∷ [])), new (length places) (omega arith) ∙ sym e))
      (λ (n : j ≢ k). let g = f.all j (omega arith) d in (g.0, omega (arith, length-append places (k ∷ []), g.1), old g.0 g.1 ∙ g.2))
      (cases_eq j k);
}
  where
    old : (a : ℕ) → a < length places → get_or (places ++ k ∷ []) a 0 ≡ get_or places a 0
    old a h = get_or_append_left places (k ∷ []) 0 a h

    new : (a : ℕ) → a ≡ length places → get_or (places ++ k ∷ []) a 0 ≡ k
    new a e = get_or_push places k 0 a (sym e)

    last : (a : ℕ) → a < length (places ++ k ∷ []) → length places ≤ a → a ≡ length places
    last a h b = omega (arith, length-append places (k ∷ []))
