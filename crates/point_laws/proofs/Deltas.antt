-- Delta is one number at most.
use Rattle.std.proofs.Common.{◌≡◌, ap, subst, ℕ, zero, suc, ◌<◌, ◌+◌, ◌-◌, List, [], ◌∷◌, length, arith}
use Rattle.comm_ring.proofs.Derived.{zero_add, zero_mul}
use Rattle.fraction_laws.proofs.Settings.{Each, Setting, gr, Local, Residues, Independent, Beyond, Delta}

module _ (K : Setting) (F : Residues (gr K)) where
  open K use {ring, A, A_ring, d, ring.{carrier, ◌≈◌, ◌⊕◌, ◌⊗◌, neg, 𝟘, 𝟙, rfl, symm, trans, add_cong, mul_cong, neg_cong, add_assoc, add_comm, add_zero, add_neg, mul_assoc, mul_comm, mul_one, distrib}}
  open F use {p, scal, scal_zero}

  infix 40 ◌≈◌
  infixl 60 ◌⊕◌
  infixl 70 ◌⊗◌
  tail : 0 < p → (f : carrier) (fs : List carrier) → Independent (gr K) F.p F.scal (f ∷ fs) → Independent (gr K) F.p F.scal fs
  tail q f fs h cs l s a =
      (h (0 ∷ cs) (ap suc l) (q, s) (A_ring.resp _ _ (symm (trans (add_cong (trans (mul_cong scal_zero (rfl f)) (zero_mul ring f)) (rfl _)) (zero_add ring _))) a)).1

  module _ (q : 0 < p) (P : carrier → Type 0) where
    fewer : (r : ℕ) → Beyond (gr K) F.p F.scal P (suc r) → Beyond (gr K) F.p F.scal P r
    fewer r b = go b.0 b.1 b.2 b.3
      where
        go : (fs : List carrier) → length fs ≡ suc r → Each ring.ops (Local (gr K) P) fs → Independent (gr K) F.p F.scal fs → Beyond (gr K) F.p F.scal P r
        go [] e l i = absurd (omega arith)
        go (f ∷ fs) e l i = (fs, (let k : length (f ∷ fs) ≡ suc r = e in omega arith), l.1, tail q f fs i)

    pub fewer_by : (k r : ℕ) → Beyond (gr K) F.p F.scal P (k + r) → Beyond (gr K) F.p F.scal P r
    fewer_by zero r b = let e : 0 + r ≡ r = omega arith in subst (Beyond (gr K) F.p F.scal P) e b
    fewer_by (suc k) r b = let e : suc k + r ≡ suc (k + r) = omega arith in fewer_by k r (fewer (k + r) (subst (Beyond (gr K) F.p F.scal P) e b))

    below : (r s : ℕ) → Delta (gr K) F.p F.scal P r → Delta (gr K) F.p F.scal P s → ¬ (r < s)
    below r s h g l = let e : s ≡ (s - suc r) + suc r = omega arith in h.1 (fewer_by (s - suc r) (suc r) (subst (Beyond (gr K) F.p F.scal P) e g.0))

    pub delta_unique : (r s : ℕ) → Delta (gr K) F.p F.scal P r → Delta (gr K) F.p F.scal P s → r ≡ s
    delta_unique r s h g = let a = below r s h g in let b = below s r g h in omega arith
