-- Numbers read digit by digit.
use Rattle.std.proofs.Common.{◌≡◌, ℕ, ◌+◌, ◌*◌, ◌-◌, ◌%◌, ◌<◌, ◌≤◌, min, List, [], ◌∷◌, length, drop, get_or, refl, sym, ap, ◌∙◌, arith, add-one, drop-cons}
use Rattle.std.proofs.lemmas.List.{drop_all}
use Rattle.comm_ring.proofs.Residues.{mod_ring, mod_quote}
use Rattle.poly_text.specs.Digits.{number, number_after}

step_mod : (p n e : ℕ) → 0 < p → ((n % p) * 10 + e) % p ≡ (n * 10 + e) % p
step_mod p n e positive = mod_ring p positive (n ∷ e ∷ []) _ _ (search mod_quote depth 20) tt

pub after_mod : (p n : ℕ) (digits : List ℕ) → 0 < p → number_after (n % p) digits % p ≡ number_after n digits % p
after_mod p n [] positive = mod_ring p positive (n ∷ []) _ _ (search mod_quote depth 20) tt
after_mod p n (d ∷ digits) positive =
    sym (after_mod p ((n % p) * 10 + (d - 48)) digits positive) ∙ ap (λ (m : ℕ). number_after m digits % p) (step_mod p n (d - 48) positive)
    ∙ after_mod p (n * 10 + (d - 48)) digits positive

pub after_more : (n : ℕ) (digits : List ℕ) → n ≤ number_after n digits
after_more n [] = omega arith
after_more n (d ∷ digits) = let h : n * 10 + (d - 48) ≤ number_after (n * 10 + (d - 48)) digits = after_more (n * 10 + (d - 48)) digits in omega arith

pub after_min : (most n : ℕ) (digits : List ℕ) → min (number_after (min n most) digits) most ≡ min (number_after n digits) most
after_min most n [] = omega arith
after_min most n (d ∷ digits) = by_size (after_min most (min n most * 10 + (d - 48)) digits) (after_min most (n * 10 + (d - 48)) digits)
  where
    same : min (min n most * 10 + (d - 48)) most ≡ min (n * 10 + (d - 48)) most
    same = omega arith

    by_size : min (number_after (min (min n most * 10 + (d - 48)) most) digits) most ≡ min (number_after (min n most * 10 + (d - 48)) digits) most
        → min (number_after (min (n * 10 + (d - 48)) most) digits) most ≡ min (number_after (n * 10 + (d - 48)) digits) most
        → min (number_after (min n most * 10 + (d - 48)) digits) most ≡ min (number_after (n * 10 + (d - 48)) digits) most
    by_size left right = sym left ∙ ap (λ (m : ℕ). min (number_after m digits) most) same ∙ right

pub at_digit : (digits : List ℕ) (i n : ℕ) → i < length digits → number_after n (drop i digits) ≡ number_after (n * 10 + (get_or digits i 0 - 48)) (drop (i + 1) digits)
at_digit digits i n within = rw (add-one, drop-cons digits i 0) refl

pub modulo_next : (p n now e i : ℕ) (digits : List ℕ) → 0 < p → number_after n (drop i digits) % p ≡ number digits % p → i < length digits → e ≡ get_or digits i 0 - 48
    → now ≡ (n * 10 + e) % p → number_after now (drop (i + 1) digits) % p ≡ number digits % p
modulo_next p n now e i digits positive whole within is_e is_now =
    ap (λ (m : ℕ). number_after m (drop (i + 1) digits) % p) is_now ∙ after_mod p (n * 10 + e) (drop (i + 1) digits) positive
    ∙ ap (λ (x : ℕ). number_after (n * 10 + x) (drop (i + 1) digits) % p) is_e ∙ ap (λ (m : ℕ). m % p) (sym (at_digit digits i n within)) ∙ whole

pub modulo_all : (p n i : ℕ) (digits : List ℕ) → number_after n (drop i digits) % p ≡ number digits % p → length digits ≤ i → n % p ≡ number digits % p
modulo_all p n i digits whole all = ap (λ (ds : List ℕ). number_after n ds % p) (sym (drop_all i digits all)) ∙ whole

pub min_next : (most n now e i : ℕ) (digits : List ℕ) → min (number_after n (drop i digits)) most ≡ min (number digits) most → i < length digits → e ≡ get_or digits i 0 - 48
    → now ≡ min (n * 10 + e) most → min (number_after now (drop (i + 1) digits)) most ≡ min (number digits) most
min_next most n now e i digits whole within is_e is_now =
    ap (λ (m : ℕ). min (number_after m (drop (i + 1) digits)) most) is_now ∙ after_min most (n * 10 + e) (drop (i + 1) digits)
    ∙ ap (λ (x : ℕ). min (number_after (n * 10 + x) (drop (i + 1) digits)) most) is_e ∙ ap (λ (m : ℕ). min m most) (sym (at_digit digits i n within)) ∙ whole

pub min_all : (most n i : ℕ) (digits : List ℕ) → min (number_after n (drop i digits)) most ≡ min (number digits) most → length digits ≤ i → min n most ≡ min (number digits) most
min_all most n i digits whole all = ap (λ (ds : List ℕ). min (number_after n ds) most) (sym (drop_all i digits all)) ∙ whole

pub residue_below : (n p : ℕ) → 0 < p → n % p < p
residue_below n p positive = omega arith
