-- The p-th power where p is 0 keeps sums.
use Rattle.std.proofs.Common.{◌≡◌, refl, sym, ap, ◌∙◌, ℕ, zero, suc, ◌+◌, ◌*◌, ◌/◌, ◌%◌, ◌<◌, ◌≤◌, List, [], ◌∷◌, arith, mod-lt}
use Rattle.std.proofs.lemmas.Nat.{mul-mod_second}
use Rattle.comm_ring.proofs.Fields.{inverse}
use Rattle.prime_field.specs.Primes.{IsPrime}
use Rattle.comm_ring.specs.Ring.{CommRing, pow, number}
use Rattle.comm_ring.proofs.Derived as Derived
use Rattle.comm_ring.proofs.Quote.{ring, quote}
use Rattle.frobenius_laws.proofs.Binomials.{choose, choose-zero, choose-none, divided, term, terms, power-of_sum}

module _ (R : CommRing) (p : ℕ) (prime : IsPrime p) (vanishes : R.◌≈◌ (number R.ops p) R.𝟘) where
  open R use {ops, carrier, ◌≈◌, ◌⊕◌, ◌⊗◌, neg, 𝟘, 𝟙, rfl, symm, trans, add_cong, mul_cong, add_zero, mul_one}

  infix 40 ◌≈◌
  infixl 60 ◌⊕◌
  infixl 70 ◌⊗◌
  infixr 30 ◌⨾◌
  ◌⨾◌ : {u v w : carrier} → u ≈ v → v ≈ w → u ≈ w
  ◌⨾◌ e f = trans e f

  -- multiples of p are 0
  pub multiple : (n : ℕ) → n % p ≡ 0 → number ops n ≈ 𝟘
  multiple n e =
      let h : n ≡ p * (n / p) = omega arith in
      Derived.of_path R (ap (number ops) h) ⨾ (Derived.number-mul R p (n / p) ⨾ (mul_cong vanishes (rfl (number ops (n / p))) ⨾ Derived.zero_mul R (number ops (n / p))))

  module _ (x y : carrier) where
    last_ring : (v : carrier) → number ops 1 ⊗ (𝟙 ⊗ v) ≈ v
    last_ring v = ring R (v ∷ []) (search quote depth 20) tt

    last : (j : ℕ) → term R x y 0 j ≈ pow ops y j
    unfolding pow
    last j = mul_cong (Derived.of_path R (ap (number ops) (choose-zero j))) (rfl (𝟙 ⊗ pow ops y j)) ⨾ last_ring (pow ops y j)

    first_ring : (v : carrier) → number ops 1 ⊗ (v ⊗ 𝟙) ≈ v
    first_ring v = ring R (v ∷ []) (search quote depth 20) tt

    first : (i : ℕ) → term R x y i 0 ≈ pow ops x i
    unfolding pow
    first i = mul_cong (Derived.of_path R (ap (number ops) (choose-none i))) (rfl (pow ops x i ⊗ 𝟙)) ⨾ first_ring (pow ops x i)

    -- all but the last term are 0
    rest : (i j : ℕ) → i + suc j ≡ p → terms R x y i (suc j) ≈ pow ops y p
    rest zero j e = last (suc j) ⨾ Derived.pow_same R y (suc j) p (omega arith)
    rest (suc i) j e =
        add_cong (mul_cong (multiple (choose (suc i) (suc j)) (divided p i j prime e)) (rfl (pow ops x (suc i) ⊗ pow ops y (suc j))) ⨾ Derived.zero_mul R (pow ops x (suc i) ⊗ pow ops y (suc j)))
        (rest i (suc j) (omega arith))
        ⨾ Derived.zero_add R (pow ops y p)

    at_end : (n : ℕ) → n ≡ p → terms R x y n 0 ≈ pow ops x p ⊕ pow ops y p
    at_end zero e = absurd (let h : 2 ≤ p = prime.0 in omega arith)
    at_end (suc n) e = add_cong (first (suc n) ⨾ Derived.pow_same R x (suc n) p e) (rest n 0 (omega arith))

    -- the p-th power of a sum
    pub power_keeps_sums : pow ops (x ⊕ y) p ≈ pow ops x p ⊕ pow ops y p
    power_keeps_sums = symm (power-of_sum R x y p) ⨾ at_end p refl

  -- 0, numerals and negatives
  power_at_zero : (n : ℕ) → 0 < n → pow ops 𝟘 n ≈ 𝟘
  unfolding pow
  power_at_zero zero l = absurd (omega arith)
  power_at_zero (suc n) l = Derived.zero_mul R (pow ops 𝟘 n)

  pub power-zero : pow ops 𝟘 p ≈ 𝟘
  power-zero = power_at_zero p (let h : 2 ≤ p = prime.0 in omega arith)

  pub power-number : (c : ℕ) → pow ops (number ops c) p ≈ number ops c
  unfolding number
  power-number zero = power-zero
  power-number (suc c) = power_keeps_sums 𝟙 (number ops c) ⨾ add_cong (Derived.one-pow R p) (power-number c)

  pub power-neg : (x : carrier) → pow ops (neg x) p ≈ neg (pow ops x p)
  power-neg x = Derived.neg_unique R (pow ops x p) (pow ops (neg x) p)
      (symm (power_keeps_sums x (neg x)) ⨾ (Derived.pow_cong R p (R.add_neg x) ⨾ power-zero))

  -- a difference of two that are fixed is fixed
  pub fixed_less : (u v : carrier) → pow ops u p ≈ u → pow ops v p ≈ v → pow ops (u ⊕ neg v) p ≈ u ⊕ neg v
  fixed_less u v e f = power_keeps_sums u (neg v) ⨾ add_cong e (power-neg v ⨾ R.neg_cong f)

  -- a numeral that is not 0 modulo p has an inverse
  pub number_inverse : (c : ℕ) → ¬ (c % p ≡ 0) → (e : ℕ) × number ops e ⊗ number ops c ≈ 𝟙
  number_inverse c n =
      let i = inverse p prime (c % p) (omega arith) (mod-lt c (let h : 2 ≤ p = prime.0 in omega arith)) in
      let q : ℕ = (i.0 * c) / p in
      let a : (i.0 * c) % p ≡ 1 = sym (mul-mod_second i.0 c p) ∙ i.1 in
      let b : i.0 * c ≡ p * ((i.0 * c) / p) + 1 = omega arith in (
        i.0,
        symm (Derived.number-mul R i.0 c) ⨾ (Derived.of_path R (ap (number ops) b) ⨾ (Derived.number-add R (p * ((i.0 * c) / p)) 1
            ⨾ (add_cong (Derived.number-mul R p ((i.0 * c) / p) ⨾ (mul_cong vanishes (rfl (number ops ((i.0 * c) / p))) ⨾ Derived.zero_mul R (number ops ((i.0 * c) / p)))) (Derived.number-one R)
            ⨾ Derived.zero_add R 𝟙))),
      )
