-- Delta bounds the power of d.
use Rattle.std.proofs.Common.{◌≡◌, refl, sym, ap, subst, ℕ, zero, suc, ◌<◌, List, [], ◌∷◌, length, arith}
use native.Mathlib.Decide.{ℕ_discrete}
use Rattle.comm_ring.proofs.Derived.{one_mul, zero_mul, zero_add}
use Rattle.comm_ring.proofs.Expressions.{◌+:◌, ◌*:◌, minus, v0, v1, v2, v3, v4, ring_as}
use Rattle.comm_ring.specs.Ring.{pow}
use Rattle.fraction_laws.proofs.Basic.{swap}
use Rattle.fraction_laws.proofs.Digits.{d_pow_in}
use Rattle.fraction_laws.proofs.Integrals.{local_mul, local_A, A_none}
use Rattle.fraction_laws.proofs.Settings.{Each, EachN, Setting, gr, Digits, Local, Residues, lin, Independent, Beyond}

module _ (K : Setting) (F : Residues (gr K)) where
  open K use {ring, A, A_ring, A_d, d, denom, ring.{carrier, ◌≈◌, ◌⊕◌, ◌⊗◌, neg, 𝟘, 𝟙, rfl, symm, trans, add_cong, mul_cong, neg_cong, add_assoc, add_comm, add_zero, add_neg, mul_assoc, mul_comm, mul_one, distrib}}
  open F use {p, scal, scal_in, scal_zero, inverse, decide}

  infix 40 ◌≈◌
  infixl 60 ◌⊕◌
  infixl 70 ◌⊗◌
  abbrev powers : ℕ → carrier → List carrier
  powers zero g = []
  powers (suc n) g = g ∷ powers n (d ⊗ g)

  length-powers : (n : ℕ) (g : carrier) → length (powers n g) ≡ n
  length-powers zero g = refl
  length-powers (suc n) g = ap suc (length-powers n (d ⊗ g))

  -- the last power of d that does not take g into A
  last : (k : ℕ) (g : carrier) → A (pow ring.ops d k ⊗ g) → ¬ (A g) → (j : ℕ) × A (pow ring.ops d (suc j) ⊗ g) × ¬ (A (pow ring.ops d j ⊗ g))
  unfolding pow
  last zero g h n = absurd (n (A_ring.resp _ _ (one_mul ring g) h))
  last (suc k) g h n = go (decide (pow ring.ops d k ⊗ g)) (λ a. last k g a n)
    where
      go : Dec (A (pow ring.ops d k ⊗ g)) → (A (pow ring.ops d k ⊗ g) → (j : ℕ) × A (pow ring.ops d (suc j) ⊗ g) × ¬ (A (pow ring.ops d j ⊗ g))) → (j : ℕ) × A (pow ring.ops d (suc j) ⊗ g) × ¬ (A (pow ring.ops d j ⊗ g))
      go (yes a) f = f a
      go (no m) f = (k, h, m)

  high : (n k : ℕ) (g : carrier) (cs : List ℕ) → A (pow ring.ops d (suc k) ⊗ g) → A (pow ring.ops d k ⊗ lin (gr K) F.p F.scal cs (powers n (d ⊗ g)))
  unfolding pow
  high n k g [] h = A_ring.resp _ _ (symm (trans (mul_comm _ _) (zero_mul ring _))) (A_none K)
  high zero k g (c ∷ cs) h = A_ring.resp _ _ (symm (trans (mul_comm _ _) (zero_mul ring _))) (A_none K)
  high (suc n) k g (c ∷ cs) h =
      A_ring.resp _ _ (ring_as ring (scal c ∷ d ∷ pow ring.ops d k ∷ g ∷ lin (gr K) F.p F.scal cs (powers n (d ⊗ (d ⊗ g))) ∷ []) (v0 *: (v1 *: v2 *: v3) +: v2 *: v4) (v2 *: (v0 *: (v1 *: v3) +: v4)) tt)
      (A_ring.add _ _ (A_ring.mul _ _ (scal_in c) h) (high n k (d ⊗ g) cs (A_ring.resp _ _ (swap ring _ _ _) (A_ring.mul _ _ A_d h))))

  abbrev Later : ℕ → carrier → List ℕ → Type 0
  Later k g l = (i : ℕ) → ¬ (A (pow ring.ops d i ⊗ (d ⊗ g))) → A (pow ring.ops d k ⊗ (d ⊗ g)) → length l ≡ length (powers (suc i) (d ⊗ g)) → EachN (λ c. c < p) l → A (lin (gr K) F.p F.scal l (powers (suc i) (d ⊗ g))) → EachN (λ c. c ≡ 0) l

  independent : (n k : ℕ) (g : carrier) → ¬ (A (pow ring.ops d n ⊗ g)) → A (pow ring.ops d k ⊗ g) → Independent (gr K) F.p F.scal (powers (suc n) g)
  unfolding pow
  independent n k g no_n h [] e small a = absurd (omega arith)
  independent n k g no_n h (c ∷ cs) e small a = go (ℕ_discrete c 0) (λ m x y. independent m k (d ⊗ g) x y cs)
    where
      not_g : ¬ (A g)
      not_g x = no_n (A_ring.mul _ _ (d_pow_in K n) x)

      never : ¬ (c ≡ 0) → ⊥
      never z =
          let j = last k g h not_g in
          let i = inverse c (omega arith) small.0 in
          let l = lin (gr K) F.p F.scal cs (powers n (d ⊗ g)) in
          let one : A (pow ring.ops d j.0 ⊗ (scal c ⊗ g)) = A_ring.resp _ _ (ring_as ring (pow ring.ops d j.0 ∷ scal c ∷ g ∷ l ∷ []) (v0 *: (v1 *: v2 +: v3) +: minus (v0 *: v3)) (v0 *: (v1 *: v2)) tt)
          (A_ring.add _ _ (A_ring.mul _ _ (d_pow_in K j.0) a) (A_ring.neg _ (high n j.0 g cs j.1))) in
          j.2 (A_ring.resp _ _ (trans (ring_as ring (scal i.0 ∷ pow ring.ops d j.0 ∷ scal c ∷ g ∷ []) (v0 *: (v1 *: (v2 *: v3))) (v0 *: v2 *: (v1 *: v3)) tt) (trans (mul_cong i.1 (rfl _)) (one_mul ring _)))
          (A_ring.mul _ _ (scal_in i.0) one))

      tail : c ≡ 0 → A (lin (gr K) F.p F.scal cs (powers n (d ⊗ g)))
      tail z = A_ring.resp _ _ (trans (add_cong (mul_cong (subst (λ m. scal m ≈ 𝟘) (sym z) scal_zero) (rfl g)) (rfl _)) (trans (add_cong (zero_mul ring g) (rfl _)) (zero_add ring _))) a

      down : (m : ℕ) (l : List ℕ) → length l ≡ length (powers m (d ⊗ g)) → EachN (λ x. x < p) l → A (lin (gr K) F.p F.scal l (powers m (d ⊗ g))) → ¬ (A (pow ring.ops d m ⊗ g))
          → Later k g l → EachN (λ x. x ≡ 0) l
      down zero [] q b s no_m f = tt
      down zero (x ∷ l) q b s no_m f = absurd (omega arith)
      down (suc m) l q b s no_m f = f m (λ t. no_m (A_ring.resp _ _ (ring_as ring (pow ring.ops d m ∷ d ∷ g ∷ []) (v0 *: (v1 *: v2)) (v1 *: v0 *: v2) tt) t)) (A_ring.resp _ _ (swap ring _ _ _) (A_ring.mul _ _ A_d h)) q b s

      go : Dec (c ≡ 0) → Later k g cs → (c ≡ 0) × EachN (λ x. x ≡ 0) cs
      go (yes z) f = (z, down n cs (let q : length (c ∷ cs) ≡ length (powers (suc n) g) = e in omega arith) small.1 (tail z) no_n f)
      go (no z) f = absurd (never z)

  module _ (N : Digits (gr K)) (P : carrier → Type 0) (inside : (x : carrier) → P x → A x) where
    local_powers : (n : ℕ) (g : carrier) → Local (gr K) P g → Each ring.ops (Local (gr K) P) (powers n g)
    local_powers zero g h = tt
    local_powers (suc n) g h = (h, local_powers n (d ⊗ g) (local_mul K N P inside d g (local_A K P inside d A_d) h))

    pub delta_bounds : (r : ℕ) → ¬ (Beyond (gr K) F.p F.scal P (suc r)) → (f : carrier) → Local (gr K) P f → A (pow ring.ops d r ⊗ f)
    unfolding pow
    delta_bounds r n f w = go (decide (pow ring.ops d r ⊗ f))
      where
        go : Dec (A (pow ring.ops d r ⊗ f)) → A (pow ring.ops d r ⊗ f)
        go (yes a) = a
        go (no m) = absurd (n (powers (suc r) f, length-powers (suc r) f, local_powers (suc r) f w, independent r (denom f).0 f m (denom f).1))
