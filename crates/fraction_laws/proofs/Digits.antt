-- The members of A modulo a power of d, by numbers.
use Rattle.std.proofs.Common.{◌≡◌, ℕ, zero, suc, ◌<◌, ◌+◌, ◌*◌, [], ◌∷◌, arith}
use Rattle.comm_ring.proofs.Derived.{one_mul, zero_mul, add_right_cancel}
use Rattle.comm_ring.proofs.Expressions.{c1, ◌+:◌, ◌*:◌, minus, v0, v1, v2, v3, v4, ring_as}
use Rattle.comm_ring.proofs.PlaceValues.{digit_high, digit_low, digit_room}
use Rattle.comm_ring.specs.Ring.{pow}
use Rattle.fraction_laws.proofs.Basic.{pow_in}
use Rattle.fraction_laws.proofs.Settings.{Setting, gr, Digits}

module _ (K : Setting) where
  open K use {ring, A, A_ring, A_d, d, cancel, ring.{carrier, ◌≈◌, ◌⊕◌, ◌⊗◌, neg, 𝟘, 𝟙, rfl, symm, trans, add_cong, mul_cong, neg_cong, add_assoc, add_comm, add_zero, add_neg, mul_assoc, mul_comm, mul_one, distrib}}

  infix 40 ◌≈◌
  infixl 60 ◌⊕◌
  infixl 70 ◌⊗◌
  pub cancel_pow : (k : ℕ) (x : carrier) → pow ring.ops d k ⊗ x ≈ 𝟘 → x ≈ 𝟘
  unfolding pow
  cancel_pow zero x e = trans (symm (one_mul ring x)) e
  cancel_pow (suc k) x e = cancel_pow k x (cancel _ (trans (symm (mul_assoc _ _ _)) e))

  pub cancel_two : (k : ℕ) (x y : carrier) → pow ring.ops d k ⊗ x ≈ pow ring.ops d k ⊗ y → x ≈ y
  unfolding pow
  cancel_two k x y e =
      add_right_cancel ring x y (neg y) (trans (cancel_pow k (x ⊕ neg y) (trans (distrib _ _ _) (trans (add_cong e (rfl _)) (trans (symm (distrib _ _ _)) (trans (mul_cong (rfl _) (add_neg y)) (trans (mul_comm _ _) (zero_mul ring _))))))) (symm (add_neg y)))

  pub d_pow_in : (k : ℕ) → A (pow ring.ops d k)
  unfolding pow
  d_pow_in k = pow_in ring A A_ring d k A_d

module _ (K : Setting) (N : Digits (gr K)) where
  open K use {ring, A, A_ring, A_d, d, cancel, ring.{carrier, ◌≈◌, ◌⊕◌, ◌⊗◌, neg, 𝟘, 𝟙, rfl, symm, trans, add_cong, mul_cong, neg_cong, add_assoc, add_comm, add_zero, add_neg, mul_assoc, mul_comm, mul_one, distrib}}
  open N use {size, digit, digit_same}

  infix 40 ◌≈◌
  infixl 60 ◌⊕◌
  infixl 70 ◌⊗◌
  pub cap : ℕ → ℕ
  cap zero = 1
  cap (suc k) = size * cap k

  pub code : (k : ℕ) (x : carrier) → A x → ℕ
  code zero x a = 0
  code (suc k) x a = (digit x a).0 + size * code k (digit x a).1 (digit x a).3

  pub code_lt : (k : ℕ) (x : carrier) (a : A x) → code k x a < cap k
  unfolding cap code
  code_lt zero x a = omega arith
  code_lt (suc k) x a = digit_room size (cap k) _ _ (digit x a).2 (code_lt k (digit x a).1 (digit x a).3)

  abbrev pub Near : ℕ → carrier → carrier → Type 0
  Near k x y = (c : carrier) × A c × (x ≈ y ⊕ (pow ring.ops d k ⊗ c))

  pub code_near : (k : ℕ) (x y : carrier) (a : A x) (b : A y) → code k x a ≡ code k y b → Near k x y
  unfolding code pow
  code_near zero x y a b e = (x ⊕ neg y, A_ring.add _ _ a (A_ring.neg _ b), ring_as ring (x ∷ y ∷ []) v0 (v1 +: c1 *: (v0 +: minus v1)) tt)
  code_near (suc k) x y a b e =
      let dx = digit x a in let dy = digit y b in
      let h : code k dx.1 dx.3 ≡ code k dy.1 dy.3 = digit_high size _ _ _ _ dx.2 dy.2 e in
      let l : dx.0 ≡ dy.0 = digit_low size _ _ _ _ e h in
      let n : Near k dx.1 dy.1 = code_near k dx.1 dy.1 dx.3 dy.3 h in (
        n.0,
        n.1,
        trans (ring_as ring (x ∷ d ∷ dy.1 ∷ []) v0 (v0 +: v1 *: v2 +: minus (v1 *: v2)) tt)
            (trans (add_cong (digit_same x y a b l) (rfl _))
            (trans (add_cong (add_cong (rfl y) (mul_cong (rfl d) n.2)) (rfl _))
            (ring_as ring (y ∷ d ∷ dy.1 ∷ pow ring.ops d k ∷ n.0 ∷ []) (v0 +: v1 *: (v2 +: v3 *: v4) +: minus (v1 *: v2)) (v0 +: v1 *: v3 *: v4) tt))),
      )
