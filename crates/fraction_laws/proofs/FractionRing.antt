-- The fractions a over d^k of a ring in which d cancels.
use Rattle.std.proofs.Common.{ℕ, zero, suc, ◌+◌, [], ◌∷◌}
use Rattle.comm_ring.proofs.Derived.{one_mul, zero_mul, add_right_cancel, pow-add}
use Rattle.comm_ring.proofs.Expressions.{c0, c1, ◌+:◌, ◌*:◌, minus, v0, v1, v2, v3, v4, v5, ring_as}
use Rattle.comm_ring.specs.Ring.{Ops, CommRing, pow}
use Rattle.fraction_laws.proofs.Settings.{IsRing}

module _ (Q : CommRing) (d : Q.carrier) (cancel : (x : Q.carrier) → Q.◌≈◌ (Q.◌⊗◌ d x) Q.𝟘 → Q.◌≈◌ x Q.𝟘) where
  open Q use {carrier, ◌≈◌, ◌⊕◌, ◌⊗◌, neg, 𝟘, 𝟙, rfl, symm, trans, add_cong, mul_cong, neg_cong, add_assoc, add_comm, add_zero, add_neg, mul_assoc, mul_comm, mul_one, distrib}

  infix 40 ◌≈◌
  infixl 60 ◌⊕◌
  infixl 70 ◌⊗◌
  cancel_pow : (k : ℕ) (x : carrier) → pow Q.ops d k ⊗ x ≈ 𝟘 → x ≈ 𝟘
  unfolding pow
  cancel_pow zero x e = trans (symm (one_mul Q x)) e
  cancel_pow (suc k) x e = cancel_pow k x (cancel _ (trans (symm (mul_assoc _ _ _)) e))

  pub cancel_two : (k : ℕ) (x y : carrier) → pow Q.ops d k ⊗ x ≈ pow Q.ops d k ⊗ y → x ≈ y
  unfolding pow
  cancel_two k x y e =
      add_right_cancel Q x y (neg y) (trans (cancel_pow k (x ⊕ neg y) (trans (distrib _ _ _) (trans (add_cong e (rfl _)) (trans (symm (distrib _ _ _)) (trans (mul_cong (rfl _) (add_neg y)) (trans (mul_comm _ _) (zero_mul Q _))))))) (symm (add_neg y)))

  abbrev pub Frac : Type 0
  Frac = carrier × ℕ

  abbrev pub D : ℕ → carrier
  D n = pow Q.ops d n

  abbrev pub Eq : Frac → Frac → Type 0
  Eq x y = x.0 ⊗ D y.1 ≈ y.0 ⊗ D x.1

  abbrev pub plus : Frac → Frac → Frac
  plus x y = (x.0 ⊗ D y.1 ⊕ y.0 ⊗ D x.1, x.1 + y.1)

  abbrev pub times : Frac → Frac → Frac
  times x y = (x.0 ⊗ y.0, x.1 + y.1)

  p2 : (m n : ℕ) → D (m + n) ≈ D m ⊗ D n
  unfolding pow
  p2 m n = pow-add Q d m n

  p3 : (l m n : ℕ) → D (l + m + n) ≈ D l ⊗ D m ⊗ D n
  unfolding pow
  p3 l m n = trans (p2 (l + m) n) (mul_cong (p2 l m) (rfl _))

  p3' : (l m n : ℕ) → D (l + (m + n)) ≈ D l ⊗ D m ⊗ D n
  unfolding pow
  p3' l m n = trans (p2 l (m + n)) (trans (mul_cong (rfl _) (p2 m n)) (symm (mul_assoc _ _ _)))

  pub eq_tran : (x y z : Frac) → Eq x y → Eq y z → Eq x z
  unfolding pow
  eq_tran x y z e f = cancel_two y.1 _ _
      (trans (ring_as Q (D y.1 ∷ x.0 ∷ D z.1 ∷ []) (v0 *: (v1 *: v2)) (v1 *: v0 *: v2) tt)
      (trans (mul_cong e (rfl _))
      (trans (ring_as Q (y.0 ∷ D x.1 ∷ D z.1 ∷ []) (v0 *: v1 *: v2) (v0 *: v2 *: v1) tt)
      (trans (mul_cong f (rfl _))
      (ring_as Q (z.0 ∷ D y.1 ∷ D x.1 ∷ []) (v0 *: v1 *: v2) (v1 *: (v0 *: v2)) tt)))))

  pub plus_cong : (x x' y y' : Frac) → Eq x x' → Eq y y' → Eq (plus x y) (plus x' y')
  unfolding pow
  plus_cong x x' y y' e f =
      trans (mul_cong (rfl _) (p2 x'.1 y'.1))
      (trans (ring_as Q (x.0 ∷ y.0 ∷ D x.1 ∷ D y.1 ∷ D x'.1 ∷ D y'.1 ∷ []) ((v0 *: v3 +: v1 *: v2) *: (v4 *: v5)) ((v0 *: v4) *: (v3 *: v5) +: (v1 *: v5) *: (v2 *: v4)) tt)
      (trans (add_cong (mul_cong e (rfl _)) (mul_cong f (rfl _)))
      (trans (ring_as Q (x'.0 ∷ y'.0 ∷ D x.1 ∷ D y.1 ∷ D x'.1 ∷ D y'.1 ∷ []) ((v0 *: v2) *: (v3 *: v5) +: (v1 *: v3) *: (v2 *: v4)) ((v0 *: v5 +: v1 *: v4) *: (v2 *: v3)) tt)
      (mul_cong (rfl _) (symm (p2 x.1 y.1))))))

  pub times_cong : (x x' y y' : Frac) → Eq x x' → Eq y y' → Eq (times x y) (times x' y')
  unfolding pow
  times_cong x x' y y' e f =
      trans (mul_cong (rfl _) (p2 x'.1 y'.1))
      (trans (ring_as Q (x.0 ∷ y.0 ∷ D x'.1 ∷ D y'.1 ∷ []) (v0 *: v1 *: (v2 *: v3)) ((v0 *: v2) *: (v1 *: v3)) tt)
      (trans (mul_cong e f)
      (trans (ring_as Q (x'.0 ∷ y'.0 ∷ D x.1 ∷ D y.1 ∷ []) ((v0 *: v2) *: (v1 *: v3)) (v0 *: v1 *: (v2 *: v3)) tt)
      (mul_cong (rfl _) (symm (p2 x.1 y.1))))))

  pub plus_assoc : (x y z : Frac) → Eq (plus (plus x y) z) (plus x (plus y z))
  unfolding pow
  plus_assoc x y z =
      trans (mul_cong (add_cong (rfl _) (mul_cong (rfl _) (p2 x.1 y.1))) (p3' x.1 y.1 z.1))
      (trans (ring_as Q (x.0 ∷ y.0 ∷ z.0 ∷ D x.1 ∷ D y.1 ∷ D z.1 ∷ []) (((v0 *: v4 +: v1 *: v3) *: v5 +: v2 *: (v3 *: v4)) *: (v3 *: v4 *: v5)) ((v0 *: (v4 *: v5) +: (v1 *: v5 +: v2 *: v4) *: v3) *: (v3 *: v4 *: v5)) tt)
      (mul_cong (add_cong (mul_cong (rfl _) (symm (p2 y.1 z.1))) (rfl _)) (symm (p3 x.1 y.1 z.1))))

  pub plus_comm : (x y : Frac) → Eq (plus x y) (plus y x)
  unfolding pow
  plus_comm x y =
      trans (mul_cong (rfl _) (p2 y.1 x.1))
      (trans (ring_as Q (x.0 ∷ y.0 ∷ D x.1 ∷ D y.1 ∷ []) ((v0 *: v3 +: v1 *: v2) *: (v3 *: v2)) ((v1 *: v2 +: v0 *: v3) *: (v2 *: v3)) tt)
      (mul_cong (rfl _) (symm (p2 x.1 y.1))))

  pub plus_zero : (x : Frac) → Eq (plus x (𝟘, 0)) x
  unfolding pow
  plus_zero x =
      trans (ring_as Q (x.0 ∷ D x.1 ∷ []) ((v0 *: c1 +: c0 *: v1) *: v1) (v0 *: (v1 *: c1)) tt)
      (mul_cong (rfl _) (symm (p2 x.1 0)))

  pub plus_neg : (x : Frac) → Eq (plus x (neg x.0, x.1)) (𝟘, 0)
  unfolding pow
  plus_neg x = ring_as Q (x.0 ∷ D x.1 ∷ D (x.1 + x.1) ∷ []) ((v0 *: v1 +: minus v0 *: v1) *: c1) (c0 *: v2) tt

  pub times_assoc : (x y z : Frac) → Eq (times (times x y) z) (times x (times y z))
  times_assoc x y z =
      trans (mul_cong (mul_assoc _ _ _) (p3' x.1 y.1 z.1)) (mul_cong (rfl _) (symm (p3 x.1 y.1 z.1)))

  pub times_comm : (x y : Frac) → Eq (times x y) (times y x)
  times_comm x y = mul_cong (mul_comm _ _) (trans (p2 y.1 x.1) (trans (mul_comm _ _) (symm (p2 x.1 y.1))))

  pub times_one : (x : Frac) → Eq (times x (𝟙, 0)) x
  unfolding pow
  times_one x = mul_cong (mul_one _) (symm (trans (p2 x.1 0) (mul_one _)))

  pub times_plus : (x y z : Frac) → Eq (times x (plus y z)) (plus (times x y) (times x z))
  unfolding pow
  times_plus x y z =
      trans (mul_cong (rfl _) (trans (p2 (x.1 + y.1) (x.1 + z.1)) (mul_cong (p2 x.1 y.1) (p2 x.1 z.1))))
      (trans (ring_as Q (x.0 ∷ y.0 ∷ z.0 ∷ D x.1 ∷ D y.1 ∷ D z.1 ∷ []) (v0 *: (v1 *: v5 +: v2 *: v4) *: ((v3 *: v4) *: (v3 *: v5))) ((v0 *: v1 *: (v3 *: v5) +: v0 *: v2 *: (v3 *: v4)) *: (v3 *: v4 *: v5)) tt)
      (mul_cong (add_cong (mul_cong (rfl _) (symm (p2 x.1 z.1))) (mul_cong (rfl _) (symm (p2 x.1 y.1)))) (symm (p3' x.1 y.1 z.1))))

  abbrev pub fraction_ops : Ops
  fraction_ops = record { carrier = Frac; ◌≈◌ = Eq; ◌⊕◌ = plus; ◌⊗◌ = times; neg = λ x. (neg x.0, x.1); 𝟘 = (𝟘, 0); 𝟙 = (𝟙, 0) }

  abbrev pub fractions : CommRing
  fractions = record {
    ops = fraction_ops;
    laws = record {
      rfl = λ x. rfl _;
      symm = λ {x} {y} h. symm h;
      trans = λ {x} {y} {z} h k. eq_tran x y z h k;
      add_cong = λ {x} {x'} {y} {y'} h k. plus_cong x x' y y' h k;
      mul_cong = λ {x} {x'} {y} {y'} h k. times_cong x x' y y' h k;
      neg_cong = λ {x} {x'} h. trans (ring_as Q (x.0 ∷ D x'.1 ∷ []) (minus v0 *: v1) (minus (v0 *: v1)) tt) (trans (neg_cong h) (ring_as Q (x'.0 ∷ D x.1 ∷ []) (minus (v0 *: v1)) (minus v0 *: v1) tt));
      add_assoc = plus_assoc;
      add_comm = plus_comm;
      add_zero = plus_zero;
      add_neg = plus_neg;
      mul_assoc = times_assoc;
      mul_comm = times_comm;
      mul_one = times_one;
      distrib = times_plus;
    };
  }

  -- whole members
  abbrev pub emb : carrier → Frac
  emb x = (x, 0)

  abbrev pub IsWhole : Frac → Type 0
  IsWhole x = (b : carrier) × x.0 ≈ b ⊗ D x.1

  pub whole_ring : IsRing fractions.ops IsWhole
  unfolding pow
  whole_ring = record {
    resp = λ x y e h. (
      h.0,
      cancel_two x.1 _ _
          (trans (mul_comm _ _) (trans (symm e) (trans (mul_cong h.1 (rfl _)) (ring_as Q (h.0 ∷ D x.1 ∷ D y.1 ∷ []) (v0 *: v1 *: v2) (v1 *: (v0 *: v2)) tt)))),
    );
    one = (𝟙, symm (mul_one 𝟙));
    add = λ x y h k. (
      h.0 ⊕ k.0,
      trans (add_cong (mul_cong h.1 (rfl _)) (mul_cong k.1 (rfl _)))
          (trans (ring_as Q (h.0 ∷ k.0 ∷ D x.1 ∷ D y.1 ∷ []) (v0 *: v2 *: v3 +: v1 *: v3 *: v2) ((v0 +: v1) *: (v2 *: v3)) tt) (mul_cong (rfl _) (symm (p2 x.1 y.1)))),
    );
    mul = λ x y h k. (
      h.0 ⊗ k.0,
      trans (mul_cong h.1 k.1)
          (trans (ring_as Q (h.0 ∷ k.0 ∷ D x.1 ∷ D y.1 ∷ []) ((v0 *: v2) *: (v1 *: v3)) (v0 *: v1 *: (v2 *: v3)) tt) (mul_cong (rfl _) (symm (p2 x.1 y.1)))),
    );
    neg = λ x h. (neg h.0, trans (neg_cong h.1) (ring_as Q (h.0 ∷ D x.1 ∷ []) (minus (v0 *: v1)) (minus v0 *: v1) tt));
  }

  -- powers of a fraction, over the power of the denominator
  pub pow_emb : (x : carrier) (n : ℕ) → Eq (pow fractions.ops (emb x) n) (pow Q.ops x n, 0)
  unfolding pow
  pow_emb x zero = rfl _
  pow_emb x (suc n) = times_cong (emb x) (emb x) (pow fractions.ops (emb x) n) (pow Q.ops x n, 0) (rfl _) (pow_emb x n)
