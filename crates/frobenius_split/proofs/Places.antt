-- The places at which a number stands, one after the other.
use Rattle.std.proofs.Common.{◌≡◌, ◌≢◌, refl, sym, ap, subst, ◌∙◌, ℕ, ◌+◌, ◌<◌, List, [], ◌∷◌, ◌++◌, length, get_or, arith, length-append}
use native.Mathlib.Decide.{ℕ_discrete}
use Rattle.std.proofs.lemmas.List.{get_or_append_left, get_or_push}
use Rattle.frobenius_split.specs.Frames.{ArePlacesOf}

pub places_none : (numbers : List ℕ) (k : ℕ) → ArePlacesOf numbers 0 k []
places_none numbers k = record { within = λ t l. absurd (omega arith); own = λ t l. absurd (omega arith); all = λ j l e. absurd (omega arith) }

pub places_same : (numbers : List ℕ) (n k : ℕ) (places : List ℕ) → get_or numbers n 0 ≢ k → ArePlacesOf numbers n k places → ArePlacesOf numbers (n + 1) k places
places_same numbers n k places other h = record {
  within = λ t l. let m : get_or places t 0 < n = h.within t l in omega arith;
  own = h.own;
  all = λ j l e. h.all j (below j l e (ℕ_discrete j n)) e;
}
  where
    below : (j : ℕ) → j < n + 1 → get_or numbers j 0 ≡ k → Dec (j ≡ n) → j < n
    below j l e (yes q) = absurd (other (ap (λ i. get_or numbers i 0) (sym q) ∙ e))
    below j l e (no q) = omega arith

pub places_more : (numbers : List ℕ) (n k : ℕ) (places : List ℕ) → get_or numbers n 0 ≡ k → ArePlacesOf numbers n k places → ArePlacesOf numbers (n + 1) k (places ++ n ∷ [])
places_more numbers n k places here h = record {
  within = λ t l. within t l (ℕ_discrete t (length places));
  own = λ t l. own t l (ℕ_discrete t (length places));
  all = λ j l e. all j l e (ℕ_discrete j n);
}
  where
    old : (t : ℕ) → t < length (places ++ n ∷ []) → t ≢ length places → t < length places
    old t l q = omega (arith, length-append places (n ∷ []))

    within : (t : ℕ) → t < length (places ++ n ∷ []) → Dec (t ≡ length places) → get_or (places ++ n ∷ []) t 0 < n + 1
    within t l (yes q) = subst (λ x. x < n + 1) (sym (get_or_push places n 0 t (sym q))) (omega arith)
    within t l (no q) = let m : get_or places t 0 < n = h.within t (old t l q) in subst (λ x. x < n + 1) (sym (get_or_append_left places (n ∷ []) 0 t (old t l q))) (omega arith)

    own : (t : ℕ) → t < length (places ++ n ∷ []) → Dec (t ≡ length places) → get_or numbers (get_or (places ++ n ∷ []) t 0) 0 ≡ k
    own t l (yes q) = ap (λ x. get_or numbers x 0) (get_or_push places n 0 t (sym q)) ∙ here
    own t l (no q) = ap (λ x. get_or numbers x 0) (get_or_append_left places (n ∷ []) 0 t (old t l q)) ∙ h.own t (old t l q)

    all : (j : ℕ) → j < n + 1 → get_or numbers j 0 ≡ k → Dec (j ≡ n) → (t : ℕ) × (t < length (places ++ n ∷ [])) × get_or (places ++ n ∷ []) t 0 ≡ j
    all j l e (yes q) = (length places, omega (arith, length-append places (n ∷ [])), get_or_push places n 0 (length places) refl ∙ sym q)
    all j l e (no q) =
        let m = h.all j (omega arith) e in
        (m.0, (let s : m.0 < length places = m.1 in omega (arith, length-append places (n ∷ []))), get_or_append_left places (n ∷ []) 0 m.0 m.1 ∙ m.2)
