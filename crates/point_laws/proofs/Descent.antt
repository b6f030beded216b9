-- A ring that cannot be enlarged at P holds every fraction that is local at P.
use Rattle.std.proofs.Common.{◌≡◌, sym, subst, ℕ, zero, suc, ◌<◌, ◌≤◌, ◌+◌, ◌*◌, List, [], ◌∷◌, length, arith, mul-le-mul_left, le_of_lt}
use Rattle.comm_ring.proofs.Derived.{one_mul, mul-pow}
use Rattle.comm_ring.proofs.Expressions.{◌+:◌, ◌*:◌, minus, v0, v1, v2, v3, ring_as}
use Rattle.comm_ring.proofs.Pigeons.{pigeonhole}
use Rattle.comm_ring.proofs.Takes.{into_resp, into_mono, into_map, into_add, into_const, into_join, into_pow}
use Rattle.comm_ring.specs.Ideals.{Into, ProductOf, no_product, one_more}
use Rattle.comm_ring.specs.Pigeonhole.{HasTwice}
use Rattle.comm_ring.specs.Ring.{CommRing, pow}
use Rattle.fraction_laws.proofs.Basic.{pow_in, gen_module, gen_into, gen_times, into_list}
use Rattle.fraction_laws.proofs.Digits.{code, cap, code_lt, code_near, Near, cancel_two}
use Rattle.fraction_laws.proofs.Integrals.{all_powers, into_mul, into_up}
use Rattle.fraction_laws.proofs.Settings.{prod, Each, IsModule, Setting, gr, Local, Radical, IsFull, IsOver, Digits}

module _ (R : CommRing) where
  open R use {carrier, ◌≈◌, ◌⊕◌, ◌⊗◌, neg, 𝟘, 𝟙, rfl, symm, trans, add_cong, mul_cong, neg_cong, add_assoc, add_comm, add_zero, add_neg, mul_assoc, mul_comm, mul_one, distrib}

  infix 40 ◌≈◌
  infixl 60 ◌⊕◌
  infixl 70 ◌⊗◌
  pub into_module : (P B M : carrier → Type 0) → ((p : carrier) → P p → B p) → IsModule R.ops B M → (n : ℕ) → IsModule R.ops B (Into R.ops P n M)
  into_module P B M f m n = record {
    resp = into_resp R P M m.resp n;
    none = into_const R P M (λ p x q h. m.mul p x (f p q) h) n 𝟘 m.none;
    add = into_add R P M m.resp m.add n;
    mul = λ b x hb h. into_map R P M M m.resp b (λ y k. m.mul b y hb k) n x h;
  }

  pub gen_mono : (P A B : carrier → Type 0) → ((x : carrier) → A x → B x) → (x : carrier) → ProductOf R.ops P A x → ProductOf R.ops P B x
  gen_mono P A B f x (no_product _ z) = no_product _ z
  gen_mono P A B f x (one_more _ p b y hp hb hy z) = one_more _ p b y hp (f b hb) (gen_mono P A B f y hy) z

  -- the product of the first i members
  abbrev pub pre : List carrier → ℕ → carrier
  pre l zero = 𝟙
  pre [] (suc i) = 𝟙
  pre (x ∷ l) (suc i) = x ⊗ pre l i

module _ (K : Setting) (N : Digits (gr K)) where
  open K use {ring, A, A_ring, A_d, d, cancel, denom, ring.{carrier, ◌≈◌, ◌⊕◌, ◌⊗◌, neg, 𝟘, 𝟙, rfl, symm, trans, add_cong, mul_cong, neg_cong, add_assoc, add_comm, add_zero, add_neg, mul_assoc, mul_comm, mul_one, distrib}}

  infix 40 ◌≈◌
  infixl 60 ◌⊕◌
  infixl 70 ◌⊗◌
  module _ (P : carrier → Type 0) (inside : (p : carrier) → P p → A p) (d_in : ProductOf ring.ops P A d) (B : carrier → Type 0) (B_over : IsOver (gr K) B) where
    open B_over use {is_ring as r, holds, power as k, within}

    abbrev pub J : carrier → Type 0
    J = Radical (gr K) P B

    abbrev pub PB : carrier → Type 0
    PB = ProductOf ring.ops P B

    pb : IsModule ring.ops B PB
    pb = gen_module ring P B r

    J_B : (x : carrier) → J x → B x
    J_B x h = h.0

    J_mul : (x b : carrier) → J x → B b → J (x ⊗ b)
    J_mul x b h hb = (r.mul x b h.0 hb, (h.1.0, pb.resp _ _ (trans (mul_comm _ _) (symm (mul-pow ring x b h.1.0))) (pb.mul _ _ (pow_in ring B r b h.1.0 hb) h.1.1)))

    near_pb : (x y : carrier) → (a : B x) (b : B y) → code K N (suc k) _ (within x a) ≡ code K N (suc k) _ (within y b) → PB (x ⊕ neg y)
    unfolding pow
    near_pb x y a b e =
        let n : Near K N (suc k) (pow ring.ops d k ⊗ x) (pow ring.ops d k ⊗ y) = code_near K N (suc k) _ _ (within x a) (within y b) e in
        let q : x ≈ y ⊕ (d ⊗ n.0) = cancel_two K k _ _ (trans n.2 (ring_as ring (d ∷ pow ring.ops d k ∷ y ∷ n.0 ∷ []) (v1 *: v2 +: v0 *: v1 *: v3) (v1 *: (v2 +: v0 *: v3)) tt)) in
        pb.resp _ _ (trans (ring_as ring (n.0 ∷ d ∷ y ∷ []) (v0 *: v1) (v2 +: v1 *: v0 +: minus v2) tt) (add_cong (symm q) (rfl _)))
        (pb.mul n.0 d (holds _ n.1) (gen_mono ring P A B holds d d_in))

    pre_B : (l : List carrier) (i : ℕ) → Each ring.ops J l → B (pre ring l i)
    pre_B l zero h = r.one
    pre_B [] (suc i) h = r.one
    pre_B (x ∷ l) (suc i) h = r.mul _ _ (J_B x h.0) (pre_B l i h.1)

    split : (l : List carrier) (i j : ℕ) → Each ring.ops J l → i < j → j ≤ length l → (y : carrier) × J y × pre ring l j ≈ pre ring l i ⊗ y
    split l zero zero h p q = absurd (omega arith)
    split [] zero (suc j) h p q = absurd (omega arith)
    split (x ∷ l) zero (suc j) h p q = (x ⊗ pre ring l j, J_mul x _ h.0 (pre_B l j h.1), symm (one_mul ring _))
    split l (suc i) zero h p q = absurd (omega arith)
    split [] (suc i) (suc j) h p q = absurd (omega arith)
    split (x ∷ l) (suc i) (suc j) h p q = let s = split l i j h.1 (omega arith) (omega arith) in (s.0, s.1, trans (mul_cong (rfl x) s.2) (symm (mul_assoc _ _ _)))

    rest : (l : List carrier) (i : ℕ) → Each ring.ops J l → (z : carrier) × B z × prod ring.ops l ≈ pre ring l i ⊗ z
    rest l zero h = (prod ring.ops l, all l h, symm (one_mul ring _))
      where
        all : (l : List carrier) → Each ring.ops J l → B (prod ring.ops l)
        all [] h = r.one
        all (x ∷ l) h = r.mul _ _ (J_B x h.0) (all l h.1)
    rest [] (suc i) h = (𝟙, r.one, symm (mul_one 𝟙))
    rest (x ∷ l) (suc i) h = let s = rest l i h.1 in (s.0, s.1, trans (mul_cong (rfl x) s.2) (symm (mul_assoc _ _ _)))

    down : (x y : carrier) → B y → PB (x ⊕ neg (x ⊗ y)) → (n : ℕ) → PB (pow ring.ops y n ⊗ x) → PB x
    unfolding pow
    down x y b e zero h = pb.resp _ _ (one_mul ring x) h
    down x y b e (suc n) h = down x y b e n
        (pb.resp _ _ (ring_as ring (x ∷ y ∷ pow ring.ops y n ∷ []) (v2 *: (v0 +: minus (v0 *: v1)) +: v1 *: v2 *: v0) (v2 *: v0) tt)
        (pb.add _ _ (pb.mul _ _ (pow_in ring B r y n b) e) h))

    pub many : ℕ
    many = cap K N (suc k)

    -- a product of many members of J lies in PB
    pub product : (l : List carrier) → length l ≡ many → Each ring.ops J l → PB (prod ring.ops l)
    unfolding many
    product l e h = go (pigeonhole many (λ i. code K N (suc k) _ (within _ (pre_B l i h))) (λ i q. code_lt K N (suc k) _ (within _ (pre_B l i h))))
      where
        go : HasTwice (λ i. code K N (suc k) _ (within _ (pre_B l i h))) many → PB (prod ring.ops l)
        go w =
            let s = split l w.0 w.1 h w.2 (let q : w.1 ≤ many = w.3 in omega arith) in
            let z = rest l w.0 h in
            let p = near_pb _ _ (pre_B l w.0 h) (pre_B l w.1 h) w.4 in
            let in_pb : PB (pre ring l w.0) = down _ s.0 (J_B _ s.1) (pb.resp _ _ (add_cong (rfl _) (neg_cong s.2)) p) s.1.1.0
            (pb.resp _ _ (mul_comm _ _) (pb.mul _ _ (pre_B l w.0 h) s.1.1.1)) in
            pb.resp _ _ (trans (mul_comm _ _) (symm z.2)) (pb.mul _ _ z.1 in_pb)

    through : (M : carrier → Type 0) → IsModule ring.ops B M → (g : carrier) → ((x : carrier) → PB x → M (x ⊗ g)) → Into ring.ops J many M g
    through M m g f = into_list ring J M m.resp many g (λ l e h. f _ (product l e h))

    -- what s members of P take into M, many * s members of J do
    lower : (s : ℕ) (M : carrier → Type 0) → IsModule ring.ops B M → (g : carrier) → Into ring.ops P s M g → Into ring.ops J (many * s) M g
    lower zero M m g h = let e : many * 0 ≡ 0 = omega arith in subst (λ n. Into ring.ops J n M g) (sym e) h
    lower (suc s) M m g h =
        let e : many + many * s ≡ many * suc s = omega arith in
        let n = into_module ring J B M J_B m (many * s) in
        subst (λ n. Into ring.ops J n M g) e
        (into_join ring J M many (many * s) g
        (through (Into ring.ops J (many * s) M) n g (λ x hx. gen_into ring P B _ n g (λ p hp. lower s M m (p ⊗ g) (h p hp)) x hx)))

    -- one power of P takes all powers of g into B
    abbrev Tame : carrier → Type 0
    Tame g = (m : ℕ) × ((n : ℕ) → Into ring.ops P m B (pow ring.ops g n))

    tame_mul : (y g : carrier) → B y → Tame g → Tame (y ⊗ g)
    tame_mul y g b t = (t.0, λ n. into_resp ring P B r.resp t.0 _ _ (symm (mul-pow ring y g n)) (into_map ring P B B r.resp _ (λ x h. r.mul _ _ (pow_in ring B r y n b) h) t.0 _ (t.1 n)))

    stable : (g : carrier) → Tame g → ((j : carrier) → J j → B (j ⊗ g)) → (j : carrier) → J j → J (g ⊗ j)
    unfolding pow
    stable g t f j h =
        let s = suc t.0 in
        let n = many * s in
        let deep : Into ring.ops P s PB (pow ring.ops g n) =
        λ p hp. into_resp ring P PB pb.resp t.0 _ _ (rfl _) (into_map ring P B PB pb.resp p (λ x hx. gen_times ring P B p x hp hx) t.0 _ (t.1 n)) in (
          r.resp _ _ (mul_comm _ _) (f j h),
          (
            n,
            pb.resp _ _ (trans (mul_comm _ _) (symm (mul-pow ring g j n)))
                (into_pow ring J PB pb.resp n j _ h (lower s PB pb _ deep)),
          ),
        )

    descend : IsFull (gr K) P B → (t : ℕ) (g : carrier) → Tame g → Into ring.ops J t B g → B g
    descend full zero g m h = h
    descend full (suc t) g m h = full g (stable g m (λ y hy. descend full t (y ⊗ g) (tame_mul y g (J_B y hy) m) (h y hy)))

    B_mod : IsModule ring.ops B B
    B_mod = record { resp = r.resp; none = holds _ (A_ring.resp _ _ (add_neg 𝟙) (A_ring.add _ _ A_ring.one (A_ring.neg _ A_ring.one))); add = r.add; mul = λ b x hb h. r.mul b x hb h }

    A_mod : IsModule ring.ops A A
    A_mod = record { resp = A_ring.resp; none = A_ring.resp _ _ (add_neg 𝟙) (A_ring.add _ _ A_ring.one (A_ring.neg _ A_ring.one)); add = A_ring.add; mul = λ b x hb h. A_ring.mul b x hb h }

    into_power : (m i : ℕ) (f : carrier) → Into ring.ops P m A f → Into ring.ops P (m * i) A (pow ring.ops f i)
    unfolding pow
    into_power m zero f h = let e : m * 0 ≡ 0 = omega arith in subst (λ n. Into ring.ops P n A 𝟙) (sym e) A_ring.one
    into_power m (suc i) f h = let e : m + m * i ≡ m * suc i = omega arith in
        subst (λ n. Into ring.ops P n A (pow ring.ops f (suc i))) e (into_mul K P inside m (m * i) f (pow ring.ops f i) h (into_power m i f h))

    tame_local : (f : carrier) → Local (gr K) P f → Tame f
    tame_local f w =
        let m = w.1.0 in
        let cs = w.0.0 in
        let n = m * length cs in
        let q = into_module ring P A A inside A_mod n in (
          n,
          λ j. into_mono ring P A B holds n _ (q.resp _ _ (mul_one _)
              (all_powers K (Into ring.ops P n A) q f cs w.0.2 w.0.1 w.0.3 j 𝟙
              (λ i l. q.resp _ _ (symm (mul_one _)) (into_up K P inside (m * i) n _ (mul-le-mul_left m (le_of_lt l)) (into_power m i f w.1.1))))),
        )

    pub descent : IsFull (gr K) P B → (f : carrier) → Local (gr K) P f → B f
    unfolding pow
    descent full f w = let t = tame_local f w in descend full (many * t.0) f t (lower t.0 B B_mod f (into_resp ring P B r.resp t.0 _ _ (mul_one f) (t.1 1)))
