-- The numbers modulo a prime are a field.
use Rattle.std.proofs.Common.{◌≡◌, ◌⊎◌, inl, inr, ℕ, zero, suc, ◌-◌, ◌*◌, ◌/◌, ◌%◌, ◌<◌, ◌≤◌, List, [], ◌∷◌, map, length, All, sym, ap, ◌∙◌, arith, mod-lt, mod-eq_of_lt, mul-le-mul_left}
use Rattle.std.proofs.lemmas.List.{length-map}
use native.Mathlib.Nat.{mod-mod}
use native.Mathlib.Decide.{ℕ_discrete}
use Rattle.std.proofs.lemmas.Nat.{mul-mod_second}
use Rattle.std.proofs.lemmas.List.Elements.{All-nil, All-cons}
use Rattle.prime_field.specs.Primes.{IsPrime}
use Rattle.prime_field.proofs.Table.{positive_of_prime, above_one}
use Rattle.comm_ring.specs.Residues.{residue_ops}
use Rattle.comm_ring.specs.Modules.{IsField, combination, InSpan}
use Rattle.comm_ring.proofs.Residues.{mod_ring, mod_quote, residues}
use Rattle.comm_ring.proofs.Modules.{Module, combination-map}

abbrev Inverse : ℕ → ℕ → Type 0
Inverse p a = (e : ℕ) × (e * a) % p ≡ 1

-- f is an inverse of p - q a, which is the remainder of p
from_remainder : (p a q f : ℕ) → 0 < p → q ≤ p → q * a ≤ p → (f * (p - q)) * a % p ≡ (f * (p - q * a)) % p
from_remainder p a q f positive h k = mod_ring p positive (a ∷ q ∷ f ∷ []) _ _ (search mod_quote depth 20) tt

-- by the remainders of p, each below the one before
search_inverse : (p fuel a : ℕ) → IsPrime p → a ≤ fuel → 0 < a → a < p → Inverse p a
search_inverse p zero a prime within pos small = absurd (omega arith)
search_inverse p (suc fuel) a prime within pos small = go (ℕ_discrete a 1) (search_inverse p fuel (p % a) prime)
  where
    positive : 0 < p
    positive = omega arith

    rest : p - (p / a) * a ≡ p % a
    rest = omega arith

    within_p : (p / a) * a ≤ p
    within_p = omega arith

    quotient_below : p / a ≤ p
    quotient_below = let l : (p / a) * 1 ≤ (p / a) * a = mul-le-mul_left (p / a) pos in omega arith

    not_zero : ¬ (a ≡ 1) → 0 < p % a
    not_zero n = let d : ¬ (p % a ≡ 0) = prime.1 a (omega arith) small in omega arith

    go : Dec (a ≡ 1) → (p % a ≤ fuel → 0 < p % a → p % a < p → Inverse p (p % a)) → Inverse p a
    go (yes e) k = (1, (let h : 1 * a ≡ 1 = omega arith in let l : 1 < p = omega arith in ap (λ z. z % p) h ∙ mod-eq_of_lt l))
    go (no n) k =
        let l : p % a < a = mod-lt p pos in
        let i : Inverse p (p % a) = k (omega arith) (not_zero n) (omega arith) in
        (i.0 * (p - p / a), from_remainder p a (p / a) i.0 positive quotient_below within_p ∙ ap (λ z. (i.0 * z) % p) rest ∙ i.1)

-- every residue but 0 has an inverse
pub inverse : (p : ℕ) → IsPrime p → (c : ℕ) → 0 < c → c < p → (e : ℕ) × (e * c) % p ≡ 1
inverse p prime c pos small = search_inverse p c c prime (omega arith) pos small

-- each number modulo a prime is 0 or has an inverse
pub residue_field : (p : ℕ) → IsPrime p → IsField (residue_ops p)
residue_field p prime = record {
  proper = λ e. absurd (let h : 1 ≡ 0 = sym (mod-eq_of_lt (above_one p prime)) ∙ e ∙ mod-eq_of_lt positive in omega arith);
  zero_or_inverse = λ c. go c (ℕ_discrete (c % p) 0);
}
  where
    positive : 0 < p
    positive = positive_of_prime p prime

    go : (c : ℕ) → Dec (c % p ≡ 0) → (c % p ≡ 0 % p) ⊎ ((e : ℕ) × ((e * c) % p) % p ≡ 1 % p)
    go c (yes z) = inl (z ∙ sym (mod-eq_of_lt positive))
    go c (no n) =
        let i = inverse p prime (c % p) (omega arith) (mod-lt c positive) in
        inr (i.0, mod-mod (i.0 * c) p ∙ sym (mul-mod_second i.0 c p) ∙ i.1 ∙ sym (mod-eq_of_lt (above_one p prime)))

-- coefficients below p
module _ (p : ℕ) (positive : 0 < p) (M : Module (residues p positive)) where
  reduced : (cs : List ℕ) → All (λ c. c < p) (map (λ c. c % p) cs)
  reduced [] = All-nil (λ c. c < p)
  reduced (c ∷ cs) = All-cons (λ e. e < p) (c % p) (map (λ e. e % p) cs) (mod-lt c positive) (reduced cs)

  -- a combination has coefficients below p
  pub residue_coefficients : (us : List M.carrier) (f : M.carrier) → InSpan M.ops us f
      → (cs : List ℕ) × length cs ≡ length us × All (λ c. c < p) cs × M.◌≋◌ f (combination M.ops cs us)
  residue_coefficients us f s = (
    map (λ c. c % p) s.0,
    simp length-map s.1,
    reduced s.0,
    M.trans s.2 (M.symm (combination-map (residues p positive) M (λ c. c % p) (λ c. mod-mod c p) s.0 us)),
  )
