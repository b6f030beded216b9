-- Integral fractions split by points.
use Rattle.std.proofs.Common.{◌≡◌, sym, subst, ℕ, zero, suc, ◌≤◌, ◌+◌, ◌*◌, ◌-◌, List, [], ◌∷◌, arith}
use Rattle.comm_ring.proofs.Derived.{one_mul, zero_mul, zero_add}
use Rattle.comm_ring.proofs.Expressions.{c0, c1, ◌+:◌, ◌*:◌, minus, v0, v1, v2, v3, ring_as}
use Rattle.comm_ring.proofs.Takes.{into_resp, into_mono, into_map, into_const, into_join}
use Rattle.comm_ring.specs.Ideals.{Into, Respects, ProductOf, no_product, one_more}
use Rattle.comm_ring.specs.Ring.{CommRing, pow}
use Rattle.fraction_laws.proofs.Basic.{swap, gen_resp, gen_add}
use Rattle.point_laws.proofs.Descent.{into_module}
use Rattle.fraction_laws.proofs.Integrals.{integral_add, integral_mul, integral_A, integral_resp, A_none, into_up}
use Rattle.fraction_laws.proofs.Settings.{Each, IsModule, Setting, gr, Digits, Integral, Local, IntoAll, LocalAt, ApartFrom, AllApart, Parts, total, Members, Multiple, AllPoints}

module _ (R : CommRing) where
  open R use {carrier, ◌≈◌, ◌⊕◌, ◌⊗◌, neg, 𝟘, 𝟙, rfl, symm, trans, add_cong, mul_cong, neg_cong, add_assoc, add_comm, add_zero, add_neg, mul_assoc, mul_comm, mul_one, distrib}

  infix 40 ◌≈◌
  infixl 60 ◌⊕◌
  infixl 70 ◌⊗◌
  into_comm : (P Q M : carrier → Type 0) → Respects R.ops M → (m n : ℕ) (x : carrier) → Into R.ops Q m (Into R.ops P n M) x → Into R.ops P n (Into R.ops Q m M) x
  into_comm P Q M r m zero x h = h
  into_comm P Q M r m (suc n) x h = λ p hp. into_comm P Q M r m n (p ⊗ x)
      (into_map R Q (Into R.ops P (suc n) M) (Into R.ops P n M) (into_resp R P M r n) p (λ z k. k p hp) m x h)

module _ (K : Setting) (N : Digits (gr K)) where
  open K use {ring, A, A_ring, A_d, d, denom, ring.{carrier, ◌≈◌, ◌⊕◌, ◌⊗◌, neg, 𝟘, 𝟙, rfl, symm, trans, add_cong, mul_cong, neg_cong, add_assoc, add_comm, add_zero, add_neg, mul_assoc, mul_comm, mul_one, distrib}}

  infix 40 ◌≈◌
  infixl 60 ◌⊕◌
  infixl 70 ◌⊗◌
  pub A_mod : IsModule ring.ops A A
  A_mod = record { resp = A_ring.resp; none = A_none K; add = A_ring.add; mul = λ b x hb h. A_ring.mul b x hb h }

  abbrev Whole : (carrier → Type 0) → (carrier → Type 0) → Type 0
  Whole I L = (u : carrier) × (v : carrier) × I u × L v × (u ⊕ v) ≈ 𝟙

  whole_flip : (I L : carrier → Type 0) → Whole I L → Whole L I
  whole_flip I L w = (w.1, w.0, w.3, w.2, trans (add_comm _ _) w.4)

  abbrev Within : (carrier → Type 0) → Type 0
  Within I = (x : carrier) → I x → A x

  gen_mod : (P B : carrier → Type 0) → IsModule ring.ops A B → IsModule ring.ops A (ProductOf ring.ops P B)
  gen_mod P B b = record {
    resp = gen_resp ring P B;
    none = no_product 𝟘 (rfl 𝟘);
    add = λ x y h k. gen_add ring P B h k;
    mul = times;
  }
    where
      times : (c x : carrier) → A c → ProductOf ring.ops P B x → ProductOf ring.ops P B (c ⊗ x)
      times c x hc (no_product _ z) = no_product _ (trans (mul_cong (rfl c) z) (trans (mul_comm _ _) (zero_mul ring c)))
      times c x hc (one_more _ p e y hp hb hy z) = one_more _ p (c ⊗ e) (c ⊗ y) hp (b.mul c e hc hb) (times c y hc hy) (trans (mul_cong (rfl c) z) (trans (distrib _ _ _) (add_cong (swap ring c p e) (rfl _))))

  gen_product : (P B : carrier → Type 0) → IsModule ring.ops A B → (x y : carrier) → ProductOf ring.ops P A x → B y → ProductOf ring.ops P B (x ⊗ y)
  gen_product P B b x y (no_product _ z) h = no_product _ (trans (mul_cong z (rfl y)) (zero_mul ring y))
  gen_product P B b x y (one_more _ p e w hp he hw z) h = one_more _ p (e ⊗ y) (w ⊗ y) hp (b.mul e y he h) (gen_product P B b w y hw h)
      (trans (mul_cong z (rfl y)) (ring_as ring (p ∷ e ∷ w ∷ y ∷ []) ((v0 *: v1 +: v2) *: v3) (v0 *: (v1 *: v3) +: v2 *: v3) tt))

  gen_within : (P B : carrier → Type 0) → Within P → Within B → Within (ProductOf ring.ops P B)
  gen_within P B f g x (no_product _ z) = A_ring.resp _ _ (symm z) (A_none K)
  gen_within P B f g x (one_more _ p e y hp he hy z) = A_ring.resp _ _ (symm z) (A_ring.add _ _ (A_ring.mul _ _ (f p hp) (g e he)) (gen_within P B f g y hy))

  -- an ideal that is comaximal with P and with B is so with PB
  whole_gen : (I P B : carrier → Type 0) → IsModule ring.ops A I → IsModule ring.ops A B → Within I → Within B → Within P
      → Whole I (ProductOf ring.ops P A) → Whole I B → Whole I (ProductOf ring.ops P B)
  whole_gen I P B i b wi wb wp x y = (
    (x.0 ⊗ y.0 ⊕ x.0 ⊗ y.1) ⊕ x.1 ⊗ y.0,
    x.1 ⊗ y.1,
    i.add _ _ (i.add _ _ (i.mul x.0 y.0 (wi _ x.2) y.2) (i.resp _ _ (mul_comm _ _) (i.mul y.1 x.0 (wb _ y.3) x.2))) (i.mul x.1 y.0 (gen_within P A wp (λ z h. h) _ x.3) y.2),
    gen_product P B b x.1 y.1 x.3 y.3,
    trans (ring_as ring (x.0 ∷ x.1 ∷ y.0 ∷ y.1 ∷ []) (v0 *: v2 +: v0 *: v3 +: v1 *: v2 +: v1 *: v3) ((v0 +: v1) *: (v2 +: v3)) tt) (trans (mul_cong x.4 y.4) (mul_one 𝟙)),
  )

  -- the products of m members of P and one of B, and their sums
  abbrev PowOver : (carrier → Type 0) → ℕ → (carrier → Type 0) → carrier → Type 0
  PowOver P zero B = B
  PowOver P (suc m) B = ProductOf ring.ops P (PowOver P m B)

  pow_over_mod : (P B : carrier → Type 0) → IsModule ring.ops A B → (m : ℕ) → IsModule ring.ops A (PowOver P m B)
  pow_over_mod P B b zero = b
  pow_over_mod P B b (suc m) = gen_mod P _ (pow_over_mod P B b m)

  pow_over_within : (P B : carrier → Type 0) → Within P → Within B → (m : ℕ) → Within (PowOver P m B)
  pow_over_within P B f g zero x h = g x h
  pow_over_within P B f g (suc m) x h = gen_within P (PowOver P m B) f (pow_over_within P B f g m) x h

  whole_pow : (I P B : carrier → Type 0) → IsModule ring.ops A I → IsModule ring.ops A B → Within I → Within B → Within P
      → Whole I (ProductOf ring.ops P A) → Whole I B → (m : ℕ) → Whole I (PowOver P m B)
  whole_pow I P B i b wi wb wp x y zero = y
  whole_pow I P B i b wi wb wp x y (suc m) = whole_gen I P (PowOver P m B) i (pow_over_mod P B b m) wi (pow_over_within P B wp wb m) wp x (whole_pow I P B i b wi wb wp x y m)

  pow_kill : (P B M N : carrier → Type 0) → IsModule ring.ops A N → (f : carrier → carrier → Type 0) → (m : ℕ) (x w : carrier)
      → ((b z : carrier) → B b → M z → N (b ⊗ z)) → Respects ring.ops M → PowOver P m B x → Into ring.ops P m M w → N (x ⊗ w)
  pow_kill P B M N n f zero x w g r h k = g x w h k
  pow_kill P B M N n f (suc m) x w g r (no_product _ z) k = n.resp _ _ (symm (trans (mul_cong z (rfl w)) (zero_mul ring w))) n.none
  pow_kill P B M N n f (suc m) x w g r (one_more _ p e y hp he hy z) k =
      n.resp _ _ (trans (ring_as ring (e ∷ p ∷ w ∷ y ∷ []) (v0 *: (v1 *: v2) +: v3 *: v2) ((v1 *: v0 +: v3) *: v2) tt) (mul_cong (symm z) (rfl w)))
      (n.add _ _ (pow_kill P B M N n f m e (p ⊗ w) g r he (k p hp)) (pow_kill P B M N n f (suc m) y w g r hy k))

  module _ (T : Type 0) (gens : T → carrier → Type 0) where
    abbrev AllOver : List T → ℕ → carrier → Type 0
    AllOver [] m = A
    AllOver (t ∷ s) m = PowOver (gens t) m (AllOver s m)

    all_over_mod : (s : List T) (m : ℕ) → IsModule ring.ops A (AllOver s m)
    all_over_mod [] m = A_mod
    all_over_mod (t ∷ s) m = pow_over_mod (gens t) (AllOver s m) (all_over_mod s m) m

    all_over_within : (s : List T) (m : ℕ) → Members (gr K) T gens s → Within (AllOver s m)
    all_over_within [] m h x k = k
    all_over_within (t ∷ s) m h x k = pow_over_within (gens t) (AllOver s m) h.0 (all_over_within s m h.1) m x k

    whole_all : (t : T) (s : List T) (m n : ℕ) → ((x : carrier) → gens t x → A x) → Members (gr K) T gens s → ApartFrom (gr K) T gens t s → Whole (PowOver (gens t) n A) (AllOver s m)
    whole_all t [] m n wt ws a = (𝟘, 𝟙, (pow_over_mod (gens t) A A_mod n).none, A_ring.one, zero_add ring 𝟙)
    whole_all t (u ∷ s) m n wt ws a =
        whole_pow (PowOver (gens t) n A) (gens u) (AllOver s m) (pow_over_mod (gens t) A A_mod n) (all_over_mod s m)
        (pow_over_within (gens t) A wt (λ x h. h) n) (all_over_within s m ws.1) ws.0
        (whole_flip _ _ (whole_pow (ProductOf ring.ops (gens u) A) (gens t) A (gen_mod (gens u) A A_mod) A_mod (gen_within (gens u) A ws.0 (λ x h. h)) (λ x h. h) wt
        (whole_flip _ _ (a.0.0, a.0.1, a.0.2, a.0.3, a.0.4)) (𝟘, 𝟙, no_product 𝟘 (rfl 𝟘), A_ring.one, zero_add ring 𝟙) n))
        (whole_all t s m n wt ws.1 a.1) m

    pub all_mod : (M : carrier → Type 0) → IsModule ring.ops A M → (s : List T) (m : ℕ) → Members (gr K) T gens s → IsModule ring.ops A (IntoAll (gr K) T gens s m M)
    all_mod M q [] m h = q
    all_mod M q (t ∷ s) m h = into_module ring (gens t) A (IntoAll (gr K) T gens s m M) h.0 (all_mod M q s m h.1) m

    pub all_resp : (M : carrier → Type 0) → Respects ring.ops M → (s : List T) (m : ℕ) → Respects ring.ops (IntoAll (gr K) T gens s m M)
    all_resp M r [] m = r
    all_resp M r (t ∷ s) m = into_resp ring (gens t) (IntoAll (gr K) T gens s m M) (all_resp M r s m) m

    pub all_map : (M N : carrier → Type 0) → Respects ring.ops N → (c : carrier) → ((x : carrier) → M x → N (c ⊗ x)) → (s : List T) (m : ℕ) (x : carrier) → IntoAll (gr K) T gens s m M x → IntoAll (gr K) T gens s m N (c ⊗ x)
    all_map M N r c f [] m x h = f x h
    all_map M N r c f (t ∷ s) m x h = into_map ring (gens t) (IntoAll (gr K) T gens s m M) (IntoAll (gr K) T gens s m N) (all_resp N r s m) c (all_map M N r c f s m) m x h

    pub all_const : (M : carrier → Type 0) → IsModule ring.ops A M → (s : List T) (m : ℕ) → Members (gr K) T gens s → (x : carrier) → M x → IntoAll (gr K) T gens s m M x
    all_const M q [] m h x k = k
    all_const M q (t ∷ s) m h x k = into_const ring (gens t) (IntoAll (gr K) T gens s m M) (λ p z hp hz. (all_mod M q s m h.1).mul p z (h.0 p hp) hz) m x (all_const M q s m h.1 x k)

    all_kill : (s : List T) (m : ℕ) (x w : carrier) → AllOver s m x → IntoAll (gr K) T gens s m A w → A (x ⊗ w)
    all_kill [] m x w h k = A_ring.mul _ _ h k
    all_kill (t ∷ s) m x w h k = pow_kill (gens t) (AllOver s m) (IntoAll (gr K) T gens s m A) A A_mod (λ a b. Unit {0}) m x w (all_kill s m) (all_resp A A_ring.resp s m) h k

    into_all_comm : (P M : carrier → Type 0) → Respects ring.ops M → (s : List T) (m n : ℕ) (x : carrier) → IntoAll (gr K) T gens s m (Into ring.ops P n M) x → Into ring.ops P n (IntoAll (gr K) T gens s m M) x
    into_all_comm P M r [] m n x h = h
    into_all_comm P M r (t ∷ s) m n x h = into_comm ring P (gens t) (IntoAll (gr K) T gens s m M) (all_resp M r s m) m n x
        (into_mono ring (gens t) _ (Into ring.ops P n (IntoAll (gr K) T gens s m M)) (into_all_comm P M r s m n) m x h)

    pub all_join : (M : carrier → Type 0) → Respects ring.ops M → (s : List T) (m n : ℕ) (x : carrier) → IntoAll (gr K) T gens s m (IntoAll (gr K) T gens s n M) x → IntoAll (gr K) T gens s (m + n) M x
    all_join M r [] m n x h = h
    all_join M r (t ∷ s) m n x h =
        into_mono ring (gens t) _ (IntoAll (gr K) T gens s (m + n) M) (all_join M r s m n) (m + n) x
        (into_join ring (gens t) (IntoAll (gr K) T gens s m (IntoAll (gr K) T gens s n M)) m n x
        (into_mono ring (gens t) _ (Into ring.ops (gens t) n (IntoAll (gr K) T gens s m (IntoAll (gr K) T gens s n M)))
        (into_all_comm (gens t) (IntoAll (gr K) T gens s n M) (all_resp M r s n) s m n) m x h))

    all_more : (s : List T) → Members (gr K) T gens s → (m n : ℕ) (x : carrier) → IntoAll (gr K) T gens s m A x → IntoAll (gr K) T gens s (m + n) A x
    all_more s w m n x h = all_join A A_ring.resp s m n x (A_resp_map (all_map A (IntoAll (gr K) T gens s n A) (all_resp A A_ring.resp s n) 𝟙 (λ z a. (all_mod A A_mod s n w).mul 𝟙 z A_ring.one (all_const A A_mod s n w z a)) s m x h))
      where
        A_resp_map : IntoAll (gr K) T gens s m (IntoAll (gr K) T gens s n A) (𝟙 ⊗ x) → IntoAll (gr K) T gens s m (IntoAll (gr K) T gens s n A) x
        A_resp_map = all_resp (IntoAll (gr K) T gens s n A) (all_resp A A_ring.resp s n) s m _ _ (one_mul ring x)

    all_up : (s : List T) → Members (gr K) T gens s → (m n : ℕ) (x : carrier) → m ≤ n → IntoAll (gr K) T gens s m A x → IntoAll (gr K) T gens s n A x
    all_up s w m n x q h = let e : m + (n - m) ≡ n = omega arith in subst (λ k. IntoAll (gr K) T gens s k A x) e (all_more s w m (n - m) x h)

    -- a sum of one fraction of A and of fractions, one local at each point, is local at the points
    pub local_of_parts : (s : List T) → Members (gr K) T gens s → (fs : List carrier) (a : carrier) → A a → Parts (gr K) T gens s fs → LocalAt (gr K) T gens s (a ⊕ total (gr K) T gens fs)
    local_of_parts [] w [] a ha h = (integral_resp K _ _ (symm (add_zero a)) (integral_A K a ha), (0, A_ring.resp _ _ (symm (add_zero a)) ha))
    local_of_parts [] w (f ∷ fs) a ha h = absurd h
    local_of_parts (t ∷ s) w [] a ha h = absurd h
    local_of_parts (t ∷ s) w (f ∷ fs) a ha h =
        let r = local_of_parts s w.1 fs a ha h.1 in
        let m = h.0.1.0 + r.1.0 in
        let q = all_mod A A_mod (t ∷ s) m w in
        let e : f ⊕ (a ⊕ total (gr K) T gens fs) ≈ a ⊕ (f ⊕ total (gr K) T gens fs) = ring_as ring (f ∷ a ∷ total (gr K) T gens fs ∷ []) (v0 +: (v1 +: v2)) (v1 +: (v0 +: v2)) tt in (
          integral_resp K _ _ e (integral_add K N _ _ h.0.0 r.0),
          (
            m,
            q.resp _ _ e (q.add _ _
                (into_mono ring (gens t) A (IntoAll (gr K) T gens s m A) (all_const A A_mod s m w.1) m f (into_up K (gens t) w.0 _ m f (omega arith) h.0.1.1))
                (into_const ring (gens t) (IntoAll (gr K) T gens s m A) (λ p z hp hz. (all_mod A A_mod s m w.1).mul p z (w.0 p hp) hz) m _ (all_up s w.1 _ m _ (omega arith) r.1.1))),
          ),
        )

    -- a fraction that is local at the points is such a sum
    pub parts_of_local : (s : List T) → Members (gr K) T gens s → AllApart (gr K) T gens s → (f : carrier) → LocalAt (gr K) T gens s f
        → (a : carrier) × (fs : List carrier) × A a × Parts (gr K) T gens s fs × f ≈ a ⊕ total (gr K) T gens fs
    parts_of_local [] w p f h = (f, [], h.1.1, tt, symm (add_zero f))
    parts_of_local (t ∷ s) w p f h =
        let m = h.1.0 in
        let c = whole_all t s m m w.0 w.1 p.0 in
        let u = c.0 in
        let v = c.1 in
        let a_u : A u = pow_over_within (gens t) A w.0 (λ x k. k) m u c.2 in
        let a_v : A v = all_over_within s m w.1 v c.3 in
        let g_local : Local (gr K) (gens t) (v ⊗ f) = (
          integral_mul K N v f (integral_A K v a_v) h.0,
          (m, into_map ring (gens t) (IntoAll (gr K) T gens s m A) A A_ring.resp v (λ x k. all_kill s m v x c.3 k) m f h.1.1),
        ) in
        let h_local : LocalAt (gr K) T gens s (u ⊗ f) = (
          integral_mul K N u f (integral_A K u a_u) h.0,
          (m, pow_kill (gens t) A (IntoAll (gr K) T gens s m A) (IntoAll (gr K) T gens s m A) (all_mod A A_mod s m w.1) (λ a b. Unit {0}) m u f (λ b z hb hz. (all_mod A A_mod s m w.1).mul b z hb hz) (all_resp A A_ring.resp s m) c.2 h.1.1),
        ) in
        let r = parts_of_local s w.1 p.1 (u ⊗ f) h_local in (
          r.0,
          v ⊗ f ∷ r.1,
          r.2,
          (g_local, r.3),
          trans (symm (one_mul ring f)) (trans (mul_cong (symm c.4) (rfl f)) (trans (dist' u v f)
              (trans (add_cong r.4 (rfl _)) (ring_as ring (r.0 ∷ total (gr K) T gens r.1 ∷ v ⊗ f ∷ []) (v0 +: v1 +: v2) (v0 +: (v2 +: v1)) tt)))),
        )
      where
        dist' : (x y z : carrier) → (x ⊕ y) ⊗ z ≈ x ⊗ z ⊕ y ⊗ z
        dist' x y z = ring_as ring (x ∷ y ∷ z ∷ []) ((v0 +: v1) *: v2) (v0 *: v2 +: v1 *: v2) tt

    -- the sum is direct modulo A
    pub direct : (s : List T) → Members (gr K) T gens s → AllApart (gr K) T gens s → (fs : List carrier) → Parts (gr K) T gens s fs → A (total (gr K) T gens fs) → Each ring.ops A fs
    direct [] w p [] h a = tt
    direct [] w p (f ∷ fs) h a = absurd h
    direct (t ∷ s) w p [] h a = absurd h
    direct (t ∷ s) w p (f ∷ fs) h a =
        let r = local_of_parts s w.1 fs 𝟘 (A_none K) h.1 in
        let n = r.1.0 in
        let m = h.0.1.0 in
        let g = total (gr K) T gens fs in
        let c = whole_all t s n m w.0 w.1 p.0 in
        let q = all_mod A A_mod s n w.1 in
        let f_all : IntoAll (gr K) T gens s n A f = q.resp _ _ (ring_as ring (f ∷ g ∷ []) (v0 +: v1 +: minus c1 *: (c0 +: v1)) v0 tt)
        (q.add _ _ (all_const A A_mod s n w.1 (f ⊕ g) a) (q.mul _ _ (A_ring.neg _ A_ring.one) r.1.1)) in
        let in_u : A (c.0 ⊗ f) = pow_kill (gens t) A A A A_mod (λ x y. Unit {0}) m c.0 f (λ b z hb hz. A_ring.mul _ _ hb hz) A_ring.resp c.2 h.0.1.1 in
        let in_v : A (c.1 ⊗ f) = all_kill s n c.1 f c.3 f_all in
        let in_f : A f = A_ring.resp _ _ (trans (ring_as ring (c.0 ∷ c.1 ∷ f ∷ []) (v0 *: v2 +: v1 *: v2) ((v0 +: v1) *: v2) tt) (trans (mul_cong c.4 (rfl f)) (one_mul ring f))) (A_ring.add _ _ in_u in_v) in
        (in_f, direct s w.1 p.1 fs h.1 (A_ring.resp _ _ (ring_as ring (f ∷ g ∷ []) (v0 +: v1 +: minus v0) v1 tt) (A_ring.add _ _ a (A_ring.neg _ in_f))))

    pub local_at_add : (s : List T) → Members (gr K) T gens s → (f g : carrier) → LocalAt (gr K) T gens s f → LocalAt (gr K) T gens s g → LocalAt (gr K) T gens s (f ⊕ g)
    local_at_add s w f g h k =
        let m = h.1.0 + k.1.0 in
        (integral_add K N f g h.0 k.0, (m, (all_mod A A_mod s m w).add _ _ (all_up s w _ m f (omega arith) h.1.1) (all_up s w _ m g (omega arith) k.1.1)))

    pub local_at_mul : (s : List T) → (f g : carrier) → LocalAt (gr K) T gens s f → LocalAt (gr K) T gens s g → LocalAt (gr K) T gens s (f ⊗ g)
    local_at_mul s f g h k = (
      integral_mul K N f g h.0 k.0,
      (
        h.1.0 + k.1.0,
        all_join A A_ring.resp s h.1.0 k.1.0 _
            (all_resp (IntoAll (gr K) T gens s k.1.0 A) (all_resp A A_ring.resp s k.1.0) s h.1.0 _ _ (mul_comm g f)
            (all_map A (IntoAll (gr K) T gens s k.1.0 A) (all_resp A A_ring.resp s k.1.0) g
            (λ x a. all_resp A A_ring.resp s k.1.0 _ _ (mul_comm x g) (all_map A A A_ring.resp x (λ y b. A_ring.mul _ _ a b) s k.1.0 g k.1.1)) s h.1.0 f h.1.1)),
      ),
    )

    -- where the list has all points, products of the points lie in multiples of d, and all integral fractions are local
    spread : (s : List T) → Members (gr K) T gens s → (p : AllPoints (gr K) T gens s) → (k : ℕ) (f : carrier) → A (pow ring.ops d k ⊗ f) → IntoAll (gr K) T gens s (p.0 * k) A f
    unfolding pow
    spread s w p zero f h = let e : p.0 * 0 ≡ 0 = omega arith in subst (λ n. IntoAll (gr K) T gens s n A f) (sym e) (all_const A A_mod s 0 w f (A_ring.resp _ _ (one_mul ring f) h))
    spread s w p (suc k) f h =
        let e : p.0 + p.0 * k ≡ p.0 * suc k = omega arith in
        let below = spread s w p k (d ⊗ f) (A_ring.resp _ _ (ring_as ring (d ∷ pow ring.ops d k ∷ f ∷ []) (v0 *: v1 *: v2) (v1 *: (v0 *: v2)) tt) h) in
        let q = all_mod A A_mod s (p.0 * k) w in
        subst (λ n. IntoAll (gr K) T gens s n A f) e
        (all_join A A_ring.resp s p.0 (p.0 * k) f
        (all_resp _ q.resp s p.0 _ _ (mul_one f)
        (all_map (Multiple (gr K) T gens) (IntoAll (gr K) T gens s (p.0 * k) A) q.resp f
        (λ x c. q.resp _ _ (trans (ring_as ring (c.0 ∷ d ∷ f ∷ []) (v0 *: (v1 *: v2)) (v2 *: (v1 *: v0)) tt) (mul_cong (rfl f) (symm c.2))) (q.mul c.0 (d ⊗ f) c.1 below))
        s p.0 𝟙 p.1)))

    pub local_of_integral : (s : List T) → Members (gr K) T gens s → AllPoints (gr K) T gens s → (f : carrier) → Integral (gr K) f → LocalAt (gr K) T gens s f
    local_of_integral s w p f h = (h, (p.0 * (denom f).0, spread s w p (denom f).0 f (denom f).1))
