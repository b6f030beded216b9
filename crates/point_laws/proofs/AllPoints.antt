-- A list of all points: products of its points lie in the multiples of d, and different points are apart.
use Rattle.std.proofs.Common.{◌≡◌, refl, ap, subst, ℕ, zero, suc, ◌+◌, inl, inr, List, [], ◌∷◌, length, arith}
use Rattle.comm_ring.proofs.Derived.{one_mul, zero_mul}
use Rattle.comm_ring.proofs.Expressions.{c1, ◌+:◌, ◌*:◌, minus, v0, v1, v2, ring_as}
use Rattle.comm_ring.specs.Ideals.{Respects, ProductOf, no_product, one_more}
use Rattle.comm_ring.specs.Ring.{CommRing, pow}
use Rattle.fraction_laws.proofs.Basic.{gen_add, gen_mul, gen_resp, gen_one, gen_times}
use Rattle.point_laws.proofs.Descent.{J, many, product}
use Rattle.fraction_laws.proofs.FractionRing.{Frac, Eq, times, times_cong, times_assoc, eq_tran}
use Rattle.point_laws.proofs.MaximalIdeals.{nilpotent, id_resp, id_none, id_more}
use Rattle.point_laws.proofs.Splitting.{all_join, all_resp}
use Rattle.fraction_laws.proofs.WrittenOut.{Finite, setting, digits, Gens, Wh, em, em_whole, Fr}
use Rattle.fraction_laws.proofs.Forms.{Mem}
use Rattle.point_laws.proofs.PointForms.{Id, Max, Covers, InAll}
use Rattle.fraction_laws.proofs.Scalars.{Scalars, Dim}
use Rattle.fraction_laws.proofs.Settings.{prod, Each, IsRing, Setting, gr, Digits, IsOver, IntoAll, Multiple, AllPoints, Apart, Members}

module _ (Q : CommRing) (d : Q.carrier) (cancel : (x : Q.carrier) → Q.◌≈◌ (Q.◌⊗◌ d x) Q.𝟘 → Q.◌≈◌ x Q.𝟘) where
  open Q use {carrier, ◌≈◌, ◌⊕◌, ◌⊗◌, neg, 𝟘, 𝟙, rfl, symm, trans, add_cong, mul_cong, neg_cong, add_assoc, add_comm, add_zero, add_neg, mul_assoc, mul_comm, mul_one, distrib}

  infix 40 ◌≈◌
  infixl 60 ◌⊕◌
  infixl 70 ◌⊗◌
  abbrev All : carrier → Type 0
  All x = Unit {0}

  pub mem_in : (t : List carrier) (p y : carrier) → Mem Q.ops d t p → ((c : carrier) × y ≈ c ⊗ p) → Id Q.ops d t y
  mem_in [] p y m w = absurd m
  mem_in (u ∷ t) p y (inl e) w = (w.0, id_resp Q d t _ _ (symm (trans (add_cong (trans w.1 (mul_cong (rfl _) e)) (rfl _)) (add_neg _))) (id_none Q d t))
  mem_in (u ∷ t) p y (inr m) w = id_more Q d t u y (mem_in t p y m w)

  abbrev IsD : carrier → Type 0
  IsD x = x ≈ d

  all_ring : IsRing Q.ops All
  all_ring = record { resp = λ x y e h. tt; one = tt; add = λ x y h k. tt; mul = λ x y h k. tt; neg = λ x h. tt }

  -- the ring itself as fractions over itself
  abbrev plain : Setting
  plain = record { ring = Q; A = All; A_ring = all_ring; d = d; A_d = tt; cancel = cancel; denom = λ f. (0, tt) }

  module _ (F : Finite Q d) where
    abbrev plain_digits : Digits (gr plain)
    plain_digits = record { size = F.size; digit = λ x a. (F.digit x, F.over x, F.digit_lt x, tt); digit_same = λ x y a b e. F.digit_same x y e }

    plain_over : IsOver (gr plain) All
    plain_over = record { is_ring = all_ring; holds = λ x h. tt; power = 0; within = λ x h. tt }

    d_in : ProductOf Q.ops IsD All d
    d_in = gen_one Q IsD All tt d (rfl d)

    multiple : (x : carrier) → ProductOf Q.ops IsD All x → (q : carrier) × x ≈ d ⊗ q
    multiple x (no_product _ z) = (𝟘, trans z (symm (trans (mul_comm _ _) (zero_mul Q d))))
    multiple x (one_more _ p b y hp hb hy z) = let m = multiple y hy in (b ⊕ m.0, trans z (trans (add_cong (mul_cong hp (rfl b)) m.1) (symm (distrib _ _ _))))

    abbrev bound : ℕ
    bound = many plain plain_digits IsD (λ p h. tt) d_in All plain_over

    -- a product of many nilpotent members is a multiple of d
    nil_product : (l : List carrier) → length l ≡ bound → Each Q.ops (λ x. (i : ℕ) × Id Q.ops d [] (pow Q.ops x i)) l → (q : carrier) × prod Q.ops l ≈ d ⊗ q
    unfolding pow
    nil_product l e h = multiple _ (product plain plain_digits IsD (λ p h. tt) d_in All plain_over l e (turn l h))
      where
        turn : (l : List carrier) → Each Q.ops (λ x. (i : ℕ) × Id Q.ops d [] (pow Q.ops x i)) l → Each Q.ops (J plain plain_digits IsD (λ p h. tt) d_in All plain_over) l
        turn [] h = tt
        turn (x ∷ l) h = ((tt, (h.0.0, gen_resp Q IsD All _ _ (symm h.0.1.1) (gen_times Q IsD All d h.0.1.0 (rfl d) tt))), turn l h.1)

  module _ (F : Finite Q d) where
    abbrev K : Setting
    K = setting Q d cancel

    abbrev N : Digits (gr K)
    N = digits Q d cancel F

    abbrev pub gens : List carrier → Frac Q d cancel → Type 0
    gens t = Gens Q d cancel (Mem Q.ops d t)

    pub members : (s : List (List carrier)) → Members (gr K) (List carrier) gens s
    unfolding pow
    members [] = tt
    members (t ∷ s) = (λ x g. (g.0, trans (symm (mul_one _)) g.2), members s)

    one : (X : Frac Q d cancel → Type 0) → Respects (Fr Q d cancel).ops X → (s : List (List carrier)) (a : carrier) (g : Frac Q d cancel) → ((y : carrier) → InAll Q.ops d s y → ((c : carrier) × y ≈ c ⊗ a) → X (times Q d cancel (em Q d cancel y) g))
        → IntoAll (gr K) (List carrier) gens s 1 X (times Q d cancel (em Q d cancel a) g)
    one X r [] a g f = f a tt (𝟙, symm (one_mul Q a))
    one X r (t ∷ s) a g f = λ p hp.
        all_resp K N (List carrier) gens X r s 1 (times Q d cancel (em Q d cancel (hp.0 ⊗ a)) g) (times Q d cancel p (times Q d cancel (em Q d cancel a) g))
        (eq_tran Q d cancel (times Q d cancel (em Q d cancel (hp.0 ⊗ a)) g) (times Q d cancel (em Q d cancel hp.0) (times Q d cancel (em Q d cancel a) g)) (times Q d cancel p (times Q d cancel (em Q d cancel a) g))
        (times_assoc Q d cancel (em Q d cancel hp.0) (em Q d cancel a) g)
        (times_cong Q d cancel (em Q d cancel hp.0) p (times Q d cancel (em Q d cancel a) g) (times Q d cancel (em Q d cancel a) g) (symm hp.2) (rfl _)))
        (one X r s (hp.0 ⊗ a) g (λ y h w. f y (mem_in t hp.0 y hp.1 (w.0 ⊗ a, trans w.1 (ring_as Q (w.0 ∷ hp.0 ∷ a ∷ []) (v0 *: (v1 *: v2)) (v0 *: v2 *: v1) tt)), h)
        (w.0 ⊗ hp.0, trans w.1 (symm (mul_assoc _ _ _)))))

    times_list : (X : Frac Q d cancel → Type 0) → Respects (Fr Q d cancel).ops X → (n : ℕ) (s : List (List carrier)) (g : Frac Q d cancel) → ((l : List carrier) → length l ≡ n → Each Q.ops (InAll Q.ops d s) l → X (times Q d cancel (em Q d cancel (prod Q.ops l)) g))
        → IntoAll (gr K) (List carrier) gens s n X g
    unfolding pow
    times_list X r zero s g f = const0 s g (r _ _ (one_times g) (f [] refl tt))
      where
        one_times : (g : Frac Q d cancel) → Eq Q d cancel (times Q d cancel (em Q d cancel 𝟙) g) g
        one_times g = one_mul (Fr Q d cancel) g

        const0 : (s : List (List carrier)) (g : Frac Q d cancel) → X g → IntoAll (gr K) (List carrier) gens s 0 X g
        const0 [] g h = h
        const0 (t ∷ s) g h = const0 s g h
    times_list X r (suc n) s g f =
        let e : 1 + n ≡ suc n = omega arith in
        subst (λ k. IntoAll (gr K) (List carrier) gens s k X g) e
        (all_join K N (List carrier) gens X r s 1 n g
        (all_resp K N (List carrier) gens (IntoAll (gr K) (List carrier) gens s n X) (all_resp K N (List carrier) gens X r s n) s 1 (times Q d cancel (em Q d cancel 𝟙) g) g (one_mul (Fr Q d cancel) g)
        (one (IntoAll (gr K) (List carrier) gens s n X) (all_resp K N (List carrier) gens X r s n) s 𝟙 g (λ y hy w.
        times_list X r n s (times Q d cancel (em Q d cancel y) g) (λ l q h. r _ _
        (eq_tran Q d cancel (times Q d cancel (em Q d cancel (y ⊗ prod Q.ops l)) g) (times Q d cancel (em Q d cancel (prod Q.ops l ⊗ y)) g) (times Q d cancel (em Q d cancel (prod Q.ops l)) (times Q d cancel (em Q d cancel y) g))
        (times_cong Q d cancel (em Q d cancel (y ⊗ prod Q.ops l)) (em Q d cancel (prod Q.ops l ⊗ y)) g g (mul_cong (mul_comm _ _) (rfl 𝟙)) (rfl _))
        (times_assoc Q d cancel (em Q d cancel (prod Q.ops l)) (em Q d cancel y) g))
        (f (y ∷ l) (ap suc q) (hy, h)))))))

    module _ (S : Scalars Q.ops) (n : ℕ) (D : Dim Q.ops S.p S.scal d n) where
      in_max : (s : List (List carrier)) (m : List carrier) (x : carrier) → Covers Q.ops d s m → InAll Q.ops d s x → Id Q.ops d m x
      in_max [] m x c h = absurd c
      in_max (t ∷ s) m x (inl f) h = f x h.0
      in_max (t ∷ s) m x (inr c) h = in_max s m x c h.1

      -- where each maximal ideal is covered, the list has all points
      pub all_points : (s : List (List carrier)) → ((m : List carrier) → Max Q.ops d m → Covers Q.ops d s m) → AllPoints (gr K) (List carrier) gens s
      unfolding pow
      all_points s c = (bound F, times_list (Multiple (gr K) (List carrier) gens) m_resp (bound F) s (𝟙, 0) (λ l e h. to_mult l (nil_product F l e (turn l h))))
        where
          m_resp : Respects (Fr Q d cancel).ops (Multiple (gr K) (List carrier) gens)
          m_resp x y e h = (h.0, h.1, eq_tran Q d cancel y x (times Q d cancel (em Q d cancel d) h.0) (symm e) h.2)

          turn : (l : List carrier) → Each Q.ops (InAll Q.ops d s) l → Each Q.ops (λ x. (i : ℕ) × Id Q.ops d [] (pow Q.ops x i)) l
          turn [] h = tt
          turn (x ∷ l) h = (nilpotent Q d S n D x (λ m q. in_max s m x (c m q) h.0), turn l h.1)

          to_mult : (l : List carrier) → ((q : carrier) × prod Q.ops l ≈ d ⊗ q) → Multiple (gr K) (List carrier) gens (times Q d cancel (em Q d cancel (prod Q.ops l)) (𝟙, 0))
          to_mult l w = (em Q d cancel w.0, em_whole Q d cancel w.0, mul_cong (trans (mul_one _) w.1) (rfl _))

  -- the ideal of a list, as sums
  pub sums : (t : List carrier) → ProductOf Q.ops (Mem Q.ops d t) All d → (l : List carrier) → Each Q.ops (Mem Q.ops d t) l → (x : carrier) → Id Q.ops d l x → ProductOf Q.ops (Mem Q.ops d t) All x
  sums t g [] h x w = gen_resp Q (Mem Q.ops d t) All _ _ (trans (mul_comm _ _) (symm w.1)) (gen_mul Q (Mem Q.ops d t) All (λ y z a b. tt) w.0 tt g)
  sums t g (p ∷ l) h x w = gen_resp Q (Mem Q.ops d t) All _ _ (ring_as Q (x ∷ w.0 ∷ p ∷ []) (v0 +: minus (v1 *: v2) +: v2 *: v1) v0 tt)
      (gen_add Q (Mem Q.ops d t) All (sums t g l h.1 _ w.1) (gen_times Q (Mem Q.ops d t) All p w.0 h.0 tt))

  mem_more : (t : List carrier) (u : carrier) (l : List carrier) → Each Q.ops (Mem Q.ops d t) l → Each Q.ops (Mem Q.ops d (u ∷ t)) l
  mem_more t u [] h = tt
  mem_more t u (x ∷ l) h = (inr h.0, mem_more t u l h.1)

  pub mem_self : (t : List carrier) → Each Q.ops (Mem Q.ops d t) t
  mem_self [] = tt
  mem_self (x ∷ t) = (inl (rfl x), mem_more t x t (mem_self t))

  pub sums_up : (t : List carrier) (x : carrier) → ProductOf Q.ops (Mem Q.ops d t) All x → ProductOf (Fr Q d cancel).ops (Gens Q d cancel (Mem Q.ops d t)) (Wh Q d cancel) (em Q d cancel x)
  unfolding pow
  sums_up t x (no_product _ z) = no_product _ (mul_cong z (rfl 𝟙))
  sums_up t x (one_more _ p b y hp hb hy z) = one_more _ (em Q d cancel p) (em Q d cancel b) (em Q d cancel y) (p, hp, rfl _) (em_whole Q d cancel b) (sums_up t y hy)
      (trans (mul_cong z (rfl 𝟙)) (ring_as Q (p ∷ b ∷ y ∷ []) ((v0 *: v1 +: v2) *: c1) ((v0 *: v1 *: c1 +: v2 *: c1) *: c1) tt))

  pub apart_up : (t u : List carrier) → ProductOf Q.ops (Mem Q.ops d t) All d → ProductOf Q.ops (Mem Q.ops d u) All d → ((x : carrier) × (y : carrier) × Id Q.ops d t x × Id Q.ops d u y × x ⊕ y ≈ 𝟙)
      → Apart (gr (setting Q d cancel)) (List carrier) (λ l. Gens Q d cancel (Mem Q.ops d l)) t u
  unfolding pow
  apart_up t u g h w = (
    em Q d cancel w.0,
    em Q d cancel w.1,
    sums_up t w.0 (sums t g t (mem_self t) w.0 w.2),
    sums_up u w.1 (sums u h u (mem_self u) w.1 w.3),
    trans (ring_as Q (w.0 ∷ w.1 ∷ []) ((v0 *: c1 +: v1 *: c1) *: c1) (v0 +: v1) tt) (trans w.4 (symm (mul_one 𝟙))),
  )
