-- Maximal ideals by the elements that the p-th power fixes.
use Rattle.std.proofs.Common.{◌≡◌, ◌⊎◌, inl, inr, refl, sym, ap, ◌∙◌, ℕ, zero, suc, ◌+◌, ◌*◌, ◌-◌, ◌%◌, ◌<◌, ◌≤◌, List, [], ◌∷◌, length, arith}
use native.Mathlib.Decide.{ℕ_discrete}
use Rattle.prime_field.specs.Primes.{IsPrime}
use Rattle.comm_ring.specs.Ring.{CommRing, pow, number}
use Rattle.comm_ring.specs.Ideals.{IsIdeal, SumOf}
use Rattle.comm_ring.proofs.Derived as Derived
use Rattle.comm_ring.proofs.Quote.{ring, ring_by, fact, quote}
use Rattle.frobenius_laws.proofs.PowerMap.{power_keeps_sums, power-number, number_inverse, fixed_less, multiple}

module _ (R : CommRing) where
  open R use {ops, carrier, ◌≈◌, ◌⊕◌, ◌⊗◌, neg, 𝟘, 𝟙, rfl, symm, trans, add_cong, mul_cong}

  infix 40 ◌≈◌
  infixl 60 ◌⊕◌
  infixl 70 ◌⊗◌
  infixr 30 ◌⨾◌
  ◌⨾◌ : {u v w : carrier} → u ≈ v → v ≈ w → u ≈ w
  ◌⨾◌ e f = trans e f

  -- a member with a power in J is in J
  abbrev pub IsRadical : (carrier → Type 0) → Type 0
  IsRadical J = (x : carrier) (k : ℕ) → J (pow ops x k) → J x

  -- a member is in J, or has an inverse modulo J
  abbrev pub InOrInverse : (carrier → Type 0) → carrier → Type 0
  InOrInverse J f = J f ⊎ ((g : carrier) × J (f ⊗ g ⊕ neg 𝟙))

  -- J and the multiples of w
  abbrev pub With : (carrier → Type 0) → carrier → carrier → Type 0
  With J w x = (y : carrier) × J (x ⊕ neg (w ⊗ y))

  -- a power of an idempotent
  idempotent_pow : (e : carrier) → e ≈ e ⊗ e → (n : ℕ) → pow ops e (suc n) ≈ e
  unfolding pow
  idempotent_pow e h zero = R.mul_one e
  idempotent_pow e h (suc n) = mul_cong (rfl e) (idempotent_pow e h n) ⨾ symm h

  module _ (p : ℕ) (prime : IsPrime p) (vanishes : number ops p ≈ 𝟘) where
    -- an ideal, modulo which all that is fixed is a number
    module _ (J : carrier → Type 0) (ideal : IsIdeal ops J) (radical : IsRadical J)
        (scalar : (b : carrier) → pow ops b p ≈ b → (c : ℕ) × J (b ⊕ neg (number ops c))) where
      idempotent_fixed : (e : carrier) → e ≈ e ⊗ e → pow ops e p ≈ e
      idempotent_fixed e h = Derived.pow_same R e p (suc (p - 1)) (let l : 2 ≤ p = prime.0 in omega arith) ⨾ idempotent_pow e h (p - 1)

      zero_ring : (e n : carrier) → n ≈ 𝟘 → e ⊕ neg n ≈ e
      zero_ring e n h = add_cong (rfl e) (R.neg_cong h ⨾ Derived.neg_zero R) ⨾ R.add_zero e

      -- i n = 1 and e = e e: then e - 1 is a multiple of e - n
      one_ring : (e n i : carrier) → i ⊗ n ≈ 𝟙 → e ≈ e ⊗ e → neg (i ⊗ (e ⊕ neg 𝟙)) ⊗ (e ⊕ neg n) ≈ e ⊕ neg 𝟙
      one_ring e n i h k = ring_by R (e ∷ n ∷ i ∷ []) (fact (e ⊕ neg 𝟙) _ _ h ∷ fact i _ _ k ∷ []) (search quote depth 20) tt

      pub in_or_inverse : (f : carrier) → ((n : ℕ) × (pow ops f (suc n) ≈ pow ops f (suc n) ⊗ pow ops f (suc n))) → InOrInverse J f
      in_or_inverse f r = go (scalar e (idempotent_fixed e r.1))
        where
          e : carrier
          e = pow ops f (suc r.0)

          go : ((c : ℕ) × J (e ⊕ neg (number ops c))) → InOrInverse J f
          go s = by (ℕ_discrete (s.0 % p) 0)
            where
              by : Dec (s.0 % p ≡ 0) → InOrInverse J f
              by (yes z) = inl (radical f (suc r.0) (ideal.resp _ _ (zero_ring e (number ops s.0) (multiple R p prime vanishes s.0 z)) s.1))
              by (no n) = let i = number_inverse R p prime vanishes s.0 n in
                  inr (
                    pow ops f r.0,
                    ideal.resp _ _ (one_ring e (number ops s.0) (number ops i.0) i.1 r.1 ⨾ add_cong (Derived.pow-suc R f r.0) (rfl (neg 𝟙)))
                        (ideal.scale (neg (number ops i.0 ⊗ (e ⊕ neg 𝟙))) _ s.1),
                  )

    -- an ideal and the multiples of an element that is fixed
    module _ (J : carrier → Type 0) (ideal : IsIdeal ops J) (w : carrier) (fixed : pow ops w p ≈ w) where
      self_ring : (x y : carrier) → x ≈ y → x ⊕ neg y ≈ 𝟘
      self_ring x y e = add_cong e (rfl (neg y)) ⨾ R.add_neg y

      pub with_old : (x : carrier) → J x → With J w x
      with_old x h = (𝟘, ideal.resp _ _ (symm (drop_ring x)) h)
        where
          drop_ring : (x : carrier) → x ⊕ neg (w ⊗ 𝟘) ≈ x
          drop_ring x = ring R (x ∷ w ∷ []) (search quote depth 20) tt

      pub with_new : With J w w
      with_new = (𝟙, ideal.resp _ _ (symm (self_ring w (w ⊗ 𝟙) (symm (R.mul_one w)))) ideal.none)

      add_ring : (x y a b : carrier) → (x ⊕ neg (w ⊗ a)) ⊕ (y ⊕ neg (w ⊗ b)) ≈ (x ⊕ y) ⊕ neg (w ⊗ (a ⊕ b))
      add_ring x y a b = ring R (w ∷ x ∷ y ∷ a ∷ b ∷ []) (search quote depth 20) tt

      scale_ring : (c x a : carrier) → c ⊗ (x ⊕ neg (w ⊗ a)) ≈ (c ⊗ x) ⊕ neg (w ⊗ (c ⊗ a))
      scale_ring c x a = ring R (w ∷ c ∷ x ∷ a ∷ []) (search quote depth 20) tt

      pub with_ideal : IsIdeal ops (With J w)
      with_ideal = record {
        resp = λ x y e h. (h.0, ideal.resp _ _ (add_cong e (rfl (neg (w ⊗ h.0)))) h.1);
        none = with_old 𝟘 ideal.none;
        add = λ x y h k. (h.0 ⊕ k.0, ideal.resp _ _ (add_ring x y h.0 k.0) (ideal.add _ _ h.1 k.1));
        scale = λ c x h. (c ⊗ h.0, ideal.resp _ _ (scale_ring c x h.0) (ideal.scale c _ h.1));
      }

      -- with w^(p-1) = w v for short
      abbrev v : carrier
      v = pow ops w (p - 2)

      whole : w ⊗ (w ⊗ v) ≈ w
      whole = mul_cong (rfl w) (symm (Derived.pow-suc R w (p - 2))) ⨾ (symm (Derived.pow-suc R w (suc (p - 2)))
          ⨾ (Derived.pow_same R w (suc (suc (p - 2))) p (let h : 2 ≤ p = prime.0 in omega arith) ⨾ fixed))

      free_ring : (x y q : carrier) → w ⊗ (w ⊗ q) ≈ w → (𝟙 ⊕ neg (w ⊗ q)) ⊗ (x ⊕ neg (w ⊗ y)) ≈ x ⊗ (𝟙 ⊕ neg (w ⊗ q))
      free_ring x y q e = ring_by R (w ∷ x ∷ y ∷ q ∷ []) (fact y _ _ e ∷ []) (search quote depth 20) tt

      end_ring : (x q : carrier) → x ⊗ (𝟙 ⊕ neg (w ⊗ q)) ≈ x ⊕ neg (w ⊗ (q ⊗ x))
      end_ring x q = ring R (w ∷ x ∷ q ∷ []) (search quote depth 20) tt

      pub with_radical : IsRadical J → IsRadical (With J w)
      unfolding pow
      with_radical r x zero h = with_ideal.resp _ _ (R.mul_one x) (with_ideal.scale x 𝟙 h)
      with_radical r x (suc k) h =
          let s : carrier = 𝟙 ⊕ neg (w ⊗ v) in
          let a : J (pow ops x (suc k) ⊗ s) = ideal.resp _ _ (free_ring (pow ops x (suc k)) h.0 v whole) (ideal.scale s _ h.1) in
          let b : J (pow ops (x ⊗ s) (suc k)) = ideal.resp _ _ (R.mul_comm (pow ops s k) (pow ops x (suc k) ⊗ s) ⨾ (R.mul_assoc (pow ops x (suc k)) s (pow ops s k) ⨾ symm (Derived.mul-pow R x s (suc k)))) (ideal.scale (pow ops s k) _ a) in
          (v ⊗ x, ideal.resp _ _ (end_ring x v) (r (x ⊗ s) (suc k) b))

    -- a number that lies in a proper ideal is 0 modulo p
    pub number_in : (J : carrier → Type 0) → IsIdeal ops J → ¬ (J 𝟙) → (c : ℕ) → J (number ops c) → c % p ≡ 0
    number_in J ideal proper c h = go (ℕ_discrete (c % p) 0)
      where
        go : Dec (c % p ≡ 0) → c % p ≡ 0
        go (yes z) = z
        go (no n) = let i = number_inverse R p prime vanishes c n in absurd (proper (ideal.resp _ _ i.1 (ideal.scale (number ops i.0) _ h)))

    -- a proper ideal with inverses is prime and radical
    module _ (M : carrier → Type 0) (ideal : IsIdeal ops M) (proper : ¬ (M 𝟙)) (maximal : (f : carrier) → InOrInverse M f) where
      second_ring : (x y g : carrier) → g ⊗ (x ⊗ y) ⊕ neg y ⊗ (x ⊗ g ⊕ neg 𝟙) ≈ y
      second_ring x y g = ring R (x ∷ y ∷ g ∷ []) (search quote depth 20) tt

      pub is_prime : (x y : carrier) → M (x ⊗ y) → M x ⊎ M y
      is_prime x y h = go (maximal x)
        where
          go : InOrInverse M x → M x ⊎ M y
          go (inl k) = inl k
          go (inr i) = inr (ideal.resp _ _ (second_ring x y i.0) (ideal.add _ _ (ideal.scale i.0 _ h) (ideal.scale (neg y) _ i.1)))

      pub is_radical : IsRadical M
      unfolding pow
      is_radical x zero h = absurd (proper h)
      is_radical x (suc k) h = go (is_prime x (pow ops x k) h) (is_radical x k)
        where
          go : M x ⊎ M (pow ops x k) → (M (pow ops x k) → M x) → M x
          go (inl a) more = a
          go (inr b) more = more b

      -- a maximal ideal within another proper one is that one
      pub is_largest : (J : carrier → Type 0) → IsIdeal ops J → ¬ (J 𝟙) → ((x : carrier) → M x → J x) → (x : carrier) → J x → M x
      is_largest J other proper_too within x h = go (maximal x)
        where
          unit_ring : (x g : carrier) → g ⊗ x ⊕ neg 𝟙 ⊗ (x ⊗ g ⊕ neg 𝟙) ≈ 𝟙
          unit_ring x g = ring R (x ∷ g ∷ []) (search quote depth 20) tt

          go : InOrInverse M x → M x
          go (inl k) = k
          go (inr i) = absurd (proper_too (other.resp _ _ (unit_ring x i.0) (other.add _ _ (other.scale i.0 _ h) (other.scale (neg 𝟙) _ (within _ i.1)))))
