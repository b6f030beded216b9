-- A fraction is integral exactly where one power of d serves for all its powers.
use Rattle.std.proofs.Common.{◌≡◌, sym, subst, ℕ, zero, suc, ◌<◌, ◌≤◌, ◌+◌, ◌*◌, ◌-◌, ◌↔◌, ◌⊎◌, inl, inr, List, [], ◌∷◌, length, arith, eq-or-lt_of_le, mul-le-mul_left, le_of_lt}
use Rattle.comm_ring.proofs.Derived.{one_mul, zero_mul, pow-add, pow_same, mul-pow}
use Rattle.comm_ring.proofs.Expressions.{c1, ◌+:◌, ◌*:◌, minus, v0, v1, v2, v3, v4, ring_as}
use Rattle.comm_ring.proofs.Pigeons.{pigeonhole}
use Rattle.comm_ring.proofs.Takes.{into_resp, into_mono, into_map, into_add, into_const, into_join}
use Rattle.comm_ring.specs.Ideals.{Into}
use Rattle.comm_ring.specs.Ring.{pow}
use Rattle.fraction_laws.proofs.Basic.{swap}
use Rattle.fraction_laws.proofs.Digits.{code, cap, code_lt, code_near, Near, cancel_two, d_pow_in}
use Rattle.fraction_laws.proofs.Settings.{mon, Each, IsModule, Setting, gr, Digits, Integral, Bounded, Local}

module _ (K : Setting) where
  open K use {ring, A, A_ring, A_d, d, cancel, denom, ring.{carrier, ◌≈◌, ◌⊕◌, ◌⊗◌, neg, 𝟘, 𝟙, rfl, symm, trans, add_cong, mul_cong, neg_cong, add_assoc, add_comm, add_zero, add_neg, mul_assoc, mul_comm, mul_one, distrib}}

  infix 40 ◌≈◌
  infixl 60 ◌⊕◌
  infixl 70 ◌⊗◌
  zeros : ℕ → List carrier → List carrier
  zeros zero cs = cs
  zeros (suc n) cs = 𝟘 ∷ zeros n cs

  pub A_none : A 𝟘
  A_none = A_ring.resp _ _ (add_neg 𝟙) (A_ring.add _ _ A_ring.one (A_ring.neg _ A_ring.one))

  zeros_in : (n : ℕ) (cs : List carrier) → Each ring.ops A cs → Each ring.ops A (zeros n cs)
  unfolding zeros
  zeros_in zero cs h = h
  zeros_in (suc n) cs h = (A_none, zeros_in n cs h)

  mon_zeros : (n : ℕ) (cs : List carrier) (f : carrier) → mon ring.ops (zeros n cs) f ≈ pow ring.ops f n ⊗ mon ring.ops cs f
  unfolding zeros pow
  mon_zeros zero cs f = symm (one_mul ring _)
  mon_zeros (suc n) cs f = trans (add_zero _) (trans (mul_cong (rfl f) (mon_zeros n cs f)) (symm (mul_assoc _ _ _)))

  -- two powers that differ by a member of A
  integral_of_powers : (f c : carrier) (i n : ℕ) → A c → pow ring.ops f (suc i + suc n) ≈ pow ring.ops f (suc i) ⊕ c → Integral (gr K) f
  unfolding pow
  integral_of_powers f c i n a e = (
    neg c ∷ zeros i (neg 𝟙 ∷ zeros n []),
    omega arith,
    (A_ring.neg _ a, zeros_in i _ (A_ring.neg _ A_ring.one, zeros_in n [] tt)),
    trans (add_cong (mul_cong (rfl f) (trans (mon_zeros i _ f) (mul_cong (rfl _) (add_cong (mul_cong (rfl f) (mon_zeros n [] f)) (rfl _))))) (rfl _))
        (trans (ring_as ring (f ∷ pow ring.ops f i ∷ pow ring.ops f n ∷ c ∷ []) (v0 *: (v1 *: (v0 *: (v2 *: c1) +: minus c1)) +: minus v3) ((v0 *: v1) *: (v0 *: v2) +: minus (v0 *: v1 +: v3)) tt)
        (trans (add_cong (trans (symm (pow-add ring f (suc i) (suc n))) e) (rfl _)) (add_neg _))),
  )

  module _ (M : carrier → Type 0) (m : IsModule ring.ops A M) (f : carrier) where
    top : (cs : List carrier) (g : carrier) → Each ring.ops A cs → ((i : ℕ) → i < length cs → M (pow ring.ops f i ⊗ g)) → M (mon ring.ops cs f ⊗ g) → M (pow ring.ops f (length cs) ⊗ g)
    unfolding pow
    top [] g a l h = h
    top (c ∷ cs) g a l h =
        m.resp _ _ (ring_as ring (pow ring.ops f (length cs) ∷ f ∷ g ∷ []) (v0 *: (v1 *: v2)) (v1 *: v0 *: v2) tt)
        (top cs (f ⊗ g) a.1 (λ i q. m.resp _ _ (ring_as ring (f ∷ pow ring.ops f i ∷ g ∷ []) (v0 *: v1 *: v2) (v1 *: (v0 *: v2)) tt) (l (suc i) (omega arith)))
        (m.resp _ _ (ring_as ring (f ∷ mon ring.ops cs f ∷ c ∷ g ∷ []) ((v0 *: v1 +: v2) *: v3 +: minus v2 *: (c1 *: v3)) (v1 *: (v0 *: v3)) tt)
        (m.add _ _ h (m.mul (neg c) _ (A_ring.neg _ a.0) (l 0 (omega arith))))))

    pub all_powers : (cs : List carrier) → Each ring.ops A cs → 0 < length cs → mon ring.ops cs f ≈ 𝟘 → (j : ℕ) (g : carrier) → ((i : ℕ) → i < length cs → M (pow ring.ops f i ⊗ g)) → M (pow ring.ops f j ⊗ g)
    unfolding pow
    all_powers cs a p e zero g l = l 0 p
    all_powers cs a p e (suc j) g l =
        m.resp _ _ (ring_as ring (pow ring.ops f j ∷ f ∷ g ∷ []) (v0 *: (v1 *: v2)) (v1 *: v0 *: v2) tt)
        (all_powers cs a p e j (f ⊗ g) (λ i q. m.resp _ _ (ring_as ring (f ∷ pow ring.ops f i ∷ g ∷ []) (v0 *: v1 *: v2) (v1 *: (v0 *: v2)) tt) (next i (eq-or-lt_of_le q))))
      where
        next : (i : ℕ) → (suc i ≡ length cs) ⊎ (suc i < length cs) → M (pow ring.ops f (suc i) ⊗ g)
        next i (inl q) = subst (λ k. M (pow ring.ops f k ⊗ g)) (sym q) (top cs g a l (m.resp _ _ (symm (trans (mul_cong e (rfl g)) (zero_mul ring g))) m.none))
        next i (inr q) = l (suc i) q

  Over : ℕ → carrier → Type 0
  unfolding pow
  Over k x = A (pow ring.ops d k ⊗ x)

  over_module : (k : ℕ) → IsModule ring.ops A (Over k)
  unfolding Over
  over_module k = record {
    resp = λ x y e h. A_ring.resp _ _ (mul_cong (rfl _) e) h;
    none = A_ring.resp _ _ (symm (trans (mul_comm _ _) (zero_mul ring _))) A_none;
    add = λ x y h k. A_ring.resp _ _ (symm (distrib _ _ _)) (A_ring.add _ _ h k);
    mul = λ b x hb h. A_ring.resp _ _ (swap ring _ _ _) (A_ring.mul _ _ hb h);
  }

  over_more : (k l : ℕ) (x : carrier) → Over k x → Over (k + l) x
  unfolding Over pow
  over_more k l x h = A_ring.resp _ _ (trans (ring_as ring (pow ring.ops d k ∷ pow ring.ops d l ∷ x ∷ []) (v1 *: (v0 *: v2)) (v0 *: v1 *: v2) tt) (mul_cong (symm (pow-add ring d k l)) (rfl x)))
      (A_ring.mul _ _ (d_pow_in K l) h)

  over_mul : (k l : ℕ) (x y : carrier) → Over k x → Over l y → Over (k + l) (x ⊗ y)
  unfolding Over pow
  over_mul k l x y h q = A_ring.resp _ _ (trans (ring_as ring (pow ring.ops d k ∷ pow ring.ops d l ∷ x ∷ y ∷ []) (v0 *: v2 *: (v1 *: v3)) (v0 *: v1 *: (v2 *: v3)) tt) (mul_cong (symm (pow-add ring d k l)) (rfl _)))
      (A_ring.mul _ _ h q)

  over_pow : (k : ℕ) (f : carrier) (i : ℕ) → Over k f → Over (k * i) (pow ring.ops f i)
  unfolding Over pow
  over_pow k f zero h = A_ring.mul _ _ (d_pow_in K (k * 0)) A_ring.one
  over_pow k f (suc i) h = let r = over_mul k (k * i) f (pow ring.ops f i) h (over_pow k f i h) in
      subst (λ n. A (pow ring.ops d n ⊗ pow ring.ops f (suc i))) (let e : k + k * i ≡ k * suc i = omega arith in e) r

  over_up : (k l : ℕ) (x : carrier) → k ≤ l → Over k x → Over l x
  over_up k l x q h = let e : k + (l - k) ≡ l = omega arith in subst (λ n. Over n x) e (over_more k (l - k) x h)

  pub bounded_of_integral : (f : carrier) → Integral (gr K) f → (k : ℕ) × Bounded (gr K) f k
  unfolding Over pow
  bounded_of_integral f w =
      let k = (denom f).0 in
      let n = k * length w.0 in (
        n,
        λ j. A_ring.resp _ _ (mul_cong (rfl _) (mul_one _))
            (all_powers (Over n) (over_module n) f w.0 w.2 w.1 w.3 j 𝟙
            (λ i q. (over_module n).resp _ _ (symm (mul_one _)) (over_up (k * i) n (pow ring.ops f i) (mul-le-mul_left k (le_of_lt q)) (over_pow k f i (denom f).1)))),
      )

  -- all products of powers of f and g lie in A over d^k
  abbrev Both : (f g : carrier) → ℕ → carrier → Type 0
  Both f g k x = (i j : ℕ) → Over k (x ⊗ (pow ring.ops f i ⊗ pow ring.ops g j))

  both_one : (f g : carrier) (k l : ℕ) → Bounded (gr K) f k → Bounded (gr K) g l → Both f g (k + l) 𝟙
  unfolding Over
  both_one f g k l a b i j = (over_module (k + l)).resp _ _ (symm (one_mul ring _)) (over_mul k l _ _ (a i) (b j))

  both_sum : (f g : carrier) (k n : ℕ) → Both f g k 𝟙 → Both f g k (pow ring.ops (f ⊕ g) n)
  unfolding Over pow
  both_sum f g k zero h i j = h i j
  both_sum f g k (suc n) h i j =
      (over_module k).resp _ _ (ring_as ring (f ∷ g ∷ pow ring.ops (f ⊕ g) n ∷ pow ring.ops f i ∷ pow ring.ops g j ∷ []) (v2 *: (v0 *: v3 *: v4) +: v2 *: (v3 *: (v1 *: v4))) ((v0 +: v1) *: v2 *: (v3 *: v4)) tt)
      ((over_module k).add _ _ (both_sum f g k n h (suc i) j) (both_sum f g k n h i (suc j)))

  pub bounded_add : (f g : carrier) (k l : ℕ) → Bounded (gr K) f k → Bounded (gr K) g l → Bounded (gr K) (f ⊕ g) (k + l)
  unfolding Over
  bounded_add f g k l a b n = (over_module (k + l)).resp _ _ (trans (mul_cong (rfl _) (mul_one 𝟙)) (mul_one _)) (both_sum f g (k + l) n (both_one f g k l a b) 0 0)

  pub bounded_mul : (f g : carrier) (k l : ℕ) → Bounded (gr K) f k → Bounded (gr K) g l → Bounded (gr K) (f ⊗ g) (k + l)
  unfolding Over
  bounded_mul f g k l a b n = (over_module (k + l)).resp _ _ (symm (mul-pow ring f g n)) (over_mul k l _ _ (a n) (b n))

  pub integral_A : (f : carrier) → A f → Integral (gr K) f
  integral_A f a = (neg f ∷ [], omega arith, (A_ring.neg _ a, tt), trans (add_cong (mul_one f) (rfl _)) (add_neg f))

  mon_cong : (cs : List carrier) {f g : carrier} → f ≈ g → mon ring.ops cs f ≈ mon ring.ops cs g
  unfolding pow
  mon_cong [] e = rfl _
  mon_cong (c ∷ cs) e = add_cong (mul_cong e (mon_cong cs e)) (rfl _)

  pub integral_resp : (f g : carrier) → f ≈ g → Integral (gr K) f → Integral (gr K) g
  integral_resp f g e w = (w.0, w.1, w.2, trans (mon_cong w.0 (symm e)) w.3)

  module _ (P : carrier → Type 0) (inside : (p : carrier) → P p → A p) where
    A_P : (p x : carrier) → P p → A x → A (p ⊗ x)
    A_P p x q a = A_ring.mul _ _ (inside p q) a

    pub into_more : (m n : ℕ) (f : carrier) → Into ring.ops P m A f → Into ring.ops P (m + n) A f
    into_more m n f h = into_join ring P A m n f (into_mono ring P A (Into ring.ops P n A) (λ x a. into_const ring P A A_P n x a) m f h)

    pub into_up : (m n : ℕ) (f : carrier) → m ≤ n → Into ring.ops P m A f → Into ring.ops P n A f
    into_up m n f q h = let e : m + (n - m) ≡ n = omega arith in subst (λ k. Into ring.ops P k A f) e (into_more m (n - m) f h)

    pub into_mul : (m n : ℕ) (f g : carrier) → Into ring.ops P m A f → Into ring.ops P n A g → Into ring.ops P (m + n) A (f ⊗ g)
    into_mul m n f g h k =
        into_join ring P A m n _ (into_resp ring P (Into ring.ops P n A) (into_resp ring P A A_ring.resp n) m _ _ (mul_comm g f)
        (into_map ring P A (Into ring.ops P n A) (into_resp ring P A A_ring.resp n) g
        (λ x a. into_resp ring P A A_ring.resp n _ _ (mul_comm x g) (into_map ring P A A A_ring.resp x (λ y b. A_ring.mul _ _ a b) n g k)) m f h))

    pub local_resp : (f g : carrier) → f ≈ g → Local (gr K) P f → Local (gr K) P g
    local_resp f g e a = (integral_resp f g e a.0, (a.1.0, into_resp ring P A A_ring.resp _ f g e a.1.1))

    pub local_A : (f : carrier) → A f → Local (gr K) P f
    local_A f a = (integral_A f a, (0, a))

module _ (K : Setting) (N : Digits (gr K)) where
  open K use {ring, A, A_ring, A_d, d, cancel, denom, ring.{carrier, ◌≈◌, ◌⊕◌, ◌⊗◌, neg, 𝟘, 𝟙, rfl, symm, trans, add_cong, mul_cong, neg_cong, add_assoc, add_comm, add_zero, add_neg, mul_assoc, mul_comm, mul_one, distrib}}

  infix 40 ◌≈◌
  infixl 60 ◌⊕◌
  infixl 70 ◌⊗◌
  pub integral_of_bounded : (f : carrier) (k : ℕ) → Bounded (gr K) f k → Integral (gr K) f
  unfolding pow
  integral_of_bounded f k b = go (pigeonhole (cap K N k) (λ j. code K N k _ (b (suc j))) (λ j l. code_lt K N k _ (b (suc j))))
    where
      go : (i : ℕ) × (j : ℕ) × (i < j) × (j ≤ cap K N k) × (code K N k _ (b (suc i)) ≡ code K N k _ (b (suc j))) → Integral (gr K) f
      go w =
          let near : Near K N k (pow ring.ops d k ⊗ pow ring.ops f (suc w.1)) (pow ring.ops d k ⊗ pow ring.ops f (suc w.0)) = code_near K N k _ _ (b (suc w.1)) (b (suc w.0)) (sym w.4) in
          let n : ℕ = w.1 - suc w.0 in
          let e : suc w.1 ≡ suc w.0 + suc n = (let l : w.0 < w.1 = w.2 in omega arith) in
          integral_of_powers K f near.0 w.0 n near.1
          (trans (pow_same ring f _ _ (sym e)) (cancel_two K k _ _ (trans near.2 (symm (distrib _ _ _)))))

  pub integral_iff : (f : carrier) → Integral (gr K) f ↔ ((k : ℕ) × Bounded (gr K) f k)
  integral_iff f = (bounded_of_integral K f, λ b. integral_of_bounded f b.0 b.1)

  pub integral_add : (f g : carrier) → Integral (gr K) f → Integral (gr K) g → Integral (gr K) (f ⊕ g)
  integral_add f g a b = let x = bounded_of_integral K f a in let y = bounded_of_integral K g b in integral_of_bounded _ _ (bounded_add K f g x.0 y.0 x.1 y.1)

  pub integral_mul : (f g : carrier) → Integral (gr K) f → Integral (gr K) g → Integral (gr K) (f ⊗ g)
  integral_mul f g a b = let x = bounded_of_integral K f a in let y = bounded_of_integral K g b in integral_of_bounded _ _ (bounded_mul K f g x.0 y.0 x.1 y.1)

  module _ (P : carrier → Type 0) (inside : (p : carrier) → P p → A p) where
    pub local_add : (f g : carrier) → Local (gr K) P f → Local (gr K) P g → Local (gr K) P (f ⊕ g)
    local_add f g a b = (integral_add f g a.0 b.0, (a.1.0 + b.1.0, into_add ring P A A_ring.resp A_ring.add _ f g (into_more K P inside _ _ f a.1.1) (into_up K P inside _ _ g (omega arith) b.1.1)))

    pub local_mul : (f g : carrier) → Local (gr K) P f → Local (gr K) P g → Local (gr K) P (f ⊗ g)
    local_mul f g a b = (integral_mul f g a.0 b.0, (a.1.0 + b.1.0, into_mul K P inside _ _ f g a.1.1 b.1.1))
