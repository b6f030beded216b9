-- Sums of multiples of rows, as the code adds them.
use Rattle.std.proofs.Common.{◌≡◌, ℕ, ◌+◌, ◌*◌, ◌%◌, ◌<◌, List, [], ◌∷◌, length, take, get_or, sym, ap, ◌∙◌, arith, length-take}
use Rattle.std.proofs.lemmas.List.{take_more}
use Rattle.std.proofs.Math.Nat.{mod-eq_of_lt}
use Rattle.std.proofs.Math.Seq.{take-length}
use Rattle.comm_ring.proofs.Residues.{mod_ring, mod_quote}
use Rattle.row_space.specs.Sums.{weighted}
use Rattle.row_space.proofs.Weights.{weighted-append}

-- one more row
pub weighted-more : (cs : List ℕ) (us : List (List ℕ)) (i t : ℕ) → length us ≡ length cs → i < length cs
    → weighted (take (i + 1) cs) (take (i + 1) us) t ≡ weighted (take i cs) (take i us) t + get_or cs i 0 * get_or (get_or us i []) t 0
weighted-more cs us i t e h =
    let inside : i < length us = omega arith in
    rw (take_more cs i 0 h, take_more us i [] inside) (weighted-append (take i cs) (take i us) (get_or cs i 0) (get_or us i []) t (simp length-take (omega arith)))

-- adding one more multiple
pub add_step : (p : ℕ) → 0 < p → (o c w f x : ℕ) → ((o + c * w) % p + (c * f) % p * x) % p ≡ (o + c * (w + f * x)) % p
add_step p positive o c w f x = mod_ring p positive (o ∷ c ∷ w ∷ f ∷ x ∷ []) ((o + c * w) % p + (c * f) % p * x) (o + c * (w + f * x)) (search mod_quote depth 20) tt

-- nothing is added where the factor is 0, and at the start
pub nothing_added : (p o w : ℕ) → o < p → o ≡ (o + 0 * w) % p
nothing_added p o w h = let e : o + 0 * w ≡ o = omega arith in sym (ap (λ n. n % p) e ∙ mod-eq_of_lt h)

-- whole lists
pub all_added : (p o c t i : ℕ) (cs : List ℕ) (us : List (List ℕ)) → length us ≡ length cs → i ≡ length cs
    → (o + c * weighted (take i cs) (take i us) t) % p ≡ (o + c * weighted cs us t) % p
all_added p o c t i cs us e h =
    ap (λ ds. (o + c * weighted ds (take i us) t) % p) (ap (λ n. take n cs) h ∙ take-length cs)
    ∙ ap (λ vs. (o + c * weighted cs vs t) % p) (ap (λ n. take n us) (h ∙ sym e) ∙ take-length us)
