-- The ring of all h that take the radical at P into itself.
use Rattle.std.proofs.Common.{◌≡◌, sym, ℕ, zero, suc, ◌≤◌, ◌+◌, ◌-◌, [], ◌∷◌, arith}
use native.Mathlib.Decide.{dec_le}
use Rattle.comm_ring.proofs.Derived.{one_mul, pow-add, pow_same, pow_cong, mul-pow}
use Rattle.comm_ring.proofs.Expressions.{c1, ◌+:◌, ◌*:◌, minus, v0, v1, v2, v3, v4, ring_as}
use Rattle.comm_ring.proofs.Takes.{into_resp}
use Rattle.comm_ring.specs.Ideals.{Into, ProductOf}
use Rattle.comm_ring.specs.Ring.{pow}
use Rattle.fraction_laws.proofs.Basic.{pow_in, gen_module, gen_one}
use Rattle.point_laws.proofs.Descent.{gen_mono}
use Rattle.fraction_laws.proofs.Integrals.{integral_of_bounded}
use Rattle.fraction_laws.proofs.Settings.{IsModule, IsRing, Setting, gr, Digits, Integral, Radical, IsOver}

module _ (K : Setting) (N : Digits (gr K)) where
  open K use {ring, A, A_ring, A_d, d, cancel, denom, ring.{carrier, ◌≈◌, ◌⊕◌, ◌⊗◌, neg, 𝟘, 𝟙, rfl, symm, trans, add_cong, mul_cong, neg_cong, add_assoc, add_comm, add_zero, add_neg, mul_assoc, mul_comm, mul_one, distrib}}

  infix 40 ◌≈◌
  infixl 60 ◌⊕◌
  infixl 70 ◌⊗◌
  module _ (P : carrier → Type 0) (inside : (p : carrier) → P p → A p) (d_in : ProductOf ring.ops P A d) (B : carrier → Type 0) (B_over : IsOver (gr K) B) where
    open B_over use {is_ring as r, holds, power as k, within}

    abbrev Jr : carrier → Type 0
    Jr = Radical (gr K) P B

    abbrev Pb : carrier → Type 0
    Pb = ProductOf ring.ops P B

    pm : IsModule ring.ops B Pb
    pm = gen_module ring P B r

    raise : (x y : carrier) (m i j : ℕ) → B x → B y → m ≤ i → Pb (pow ring.ops x m) → Pb (pow ring.ops x i ⊗ pow ring.ops y j)
    unfolding pow
    raise x y m i j bx bv l h =
        let e : i ≡ m + (i - m) = omega arith in
        pm.resp _ _ (trans (ring_as ring (pow ring.ops x (i - m) ∷ pow ring.ops y j ∷ pow ring.ops x m ∷ []) (v0 *: v1 *: v2) (v2 *: v0 *: v1) tt)
        (mul_cong (trans (symm (pow-add ring x m (i - m))) (pow_same ring x _ _ (sym e))) (rfl _)))
        (pm.mul _ _ (r.mul _ _ (pow_in ring B r x (i - m) bx) (pow_in ring B r y j bv)) h)

    spread : (x y : carrier) (m n : ℕ) → B x → B y → Pb (pow ring.ops x m) → Pb (pow ring.ops y n) → (s i j : ℕ) → m + n ≤ i + j + s → Pb (pow ring.ops (x ⊕ y) s ⊗ (pow ring.ops x i ⊗ pow ring.ops y j))
    unfolding pow
    spread x y m n bx bv h g zero i j l = go (dec_le m i)
      where
        go : Dec (m ≤ i) → Pb (𝟙 ⊗ (pow ring.ops x i ⊗ pow ring.ops y j))
        go (yes q) = pm.resp _ _ (symm (one_mul ring _)) (raise x y m i j bx bv q h)
        go (no q) = pm.resp _ _ (trans (mul_comm _ _) (symm (one_mul ring _))) (raise y x n j i bv bx (omega arith) g)
    spread x y m n bx bv h g (suc s) i j l =
        pm.resp _ _ (ring_as ring (x ∷ y ∷ pow ring.ops (x ⊕ y) s ∷ pow ring.ops x i ∷ pow ring.ops y j ∷ []) (v2 *: (v0 *: v3 *: v4) +: v2 *: (v3 *: (v1 *: v4))) ((v0 +: v1) *: v2 *: (v3 *: v4)) tt)
        (pm.add _ _ (spread x y m n bx bv h g s (suc i) j (omega arith)) (spread x y m n bx bv h g s i (suc j) (omega arith)))

    -- the radical is closed under sums
    pub radical_add : (x y : carrier) → Jr x → Jr y → Jr (x ⊕ y)
    unfolding pow
    radical_add x y h g =
        (r.add x y h.0 g.0, (h.1.0 + g.1.0, pm.resp _ _ (trans (mul_cong (rfl _) (mul_one 𝟙)) (mul_one _)) (spread x y h.1.0 g.1.0 h.0 g.0 h.1.1 g.1.1 (h.1.0 + g.1.0) 0 0 (omega arith))))

    pub radical_mul : (b x : carrier) → B b → Jr x → Jr (b ⊗ x)
    radical_mul b x hb h = (r.mul b x hb h.0, (h.1.0, pm.resp _ _ (symm (mul-pow ring b x h.1.0)) (pm.mul _ _ (pow_in ring B r b h.1.0 hb) h.1.1)))

    radical_resp : (x y : carrier) → x ≈ y → Jr x → Jr y
    radical_resp x y e h = (r.resp _ _ e h.0, (h.1.0, pm.resp _ _ (pow_cong ring h.1.0 e) h.1.1))

    radical_gen : (x : carrier) → B x → Pb x → Jr x
    unfolding pow
    radical_gen x b h = (b, (1, pm.resp _ _ (symm (mul_one x)) h))

    -- all h that take the radical into itself
    abbrev pub Stable : carrier → Type 0
    Stable h = (x : carrier) → Jr x → Jr (h ⊗ x)

    pub stable_ring : IsRing ring.ops Stable
    stable_ring = record {
      resp = λ x y e h z hz. radical_resp _ _ (mul_cong e (rfl z)) (h z hz);
      one = λ z hz. radical_resp _ _ (symm (one_mul ring z)) hz;
      add = λ x y h g z hz. radical_resp _ _ (ring_as ring (x ∷ y ∷ z ∷ []) (v0 *: v2 +: v1 *: v2) ((v0 +: v1) *: v2) tt) (radical_add _ _ (h z hz) (g z hz));
      mul = λ x y h g z hz. radical_resp _ _ (symm (mul_assoc _ _ _)) (h _ (g z hz));
      neg = λ x h z hz. radical_resp _ _ (ring_as ring (x ∷ z ∷ []) (minus c1 *: (v0 *: v1)) (minus v0 *: v1) tt) (radical_mul (neg 𝟙) _ (r.neg _ r.one) (h z hz));
    }

    pub stable_holds : (x : carrier) → B x → Stable x
    stable_holds x b z hz = radical_mul x z b hz

    d_radical : Jr d
    d_radical = radical_gen d (holds d A_d) (gen_mono ring P A B holds d d_in)

    stable_d : (h : carrier) → Stable h → (n : ℕ) → Jr (pow ring.ops h n ⊗ d)
    unfolding pow
    stable_d h s zero = radical_resp _ _ (symm (one_mul ring d)) d_radical
    stable_d h s (suc n) = radical_resp _ _ (symm (mul_assoc _ _ _)) (s _ (stable_d h s n))

    pub stable_within : (h : carrier) → Stable h → A (pow ring.ops d (suc k) ⊗ h)
    unfolding pow
    stable_within h s = A_ring.resp _ _ (ring_as ring (pow ring.ops d k ∷ h ∷ d ∷ []) (v0 *: (v1 *: c1 *: v2)) (v2 *: v0 *: v1) tt) (within _ (stable_d h s 1).0)

    pub stable_integral : (h : carrier) → Stable h → Integral (gr K) h
    unfolding pow
    stable_integral h s = integral_of_bounded K N h (suc k) (λ j. A_ring.resp _ _ (ring_as ring (pow ring.ops d k ∷ pow ring.ops h j ∷ d ∷ []) (v0 *: (v1 *: v2)) (v2 *: v0 *: v1) tt) (within _ (stable_d h s j).0))

    -- where some power of P takes all of B into A, all such h are local at P, by the next power
    pub stable_local : (m : ℕ) → ((x : carrier) → B x → Into ring.ops P m A x) → (h : carrier) → Stable h → Into ring.ops P (suc m) A h
    stable_local m f h s = λ p hp. into_resp ring P A A_ring.resp m _ _ (mul_comm h p) (f _ (s p (radical_gen p (holds p (inside p hp)) (gen_one ring P B r.one p hp))).0)
