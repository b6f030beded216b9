-- Ideals of a ring that is finite modulo d: tests, maximal ideals, nilpotent members.
use Rattle.std.proofs.Common.{◌≡◌, refl, sym, ap, subst, ◌∙◌, ℕ, zero, suc, ◌+◌, ◌-◌, ◌<◌, ◌⊎◌, inl, inr, List, [], ◌∷◌, length, arith}
use native.Mathlib.Decide.{ℕ_discrete}
use Rattle.comm_ring.proofs.Derived.{pow-add, pow_same}
use Rattle.comm_ring.proofs.Expressions.{c0, c1, ◌+:◌, ◌*:◌, minus, v0, v1, v2, v3, v4, ring_as}
use Rattle.comm_ring.proofs.Pigeons.{pigeonhole}
use Rattle.comm_ring.proofs.Searching.{below}
use Rattle.comm_ring.specs.Pigeonhole.{HasTwice}
use Rattle.comm_ring.specs.Ring.{CommRing, pow}
use Rattle.fraction_laws.proofs.Coordinates.{dec_mult, finite}
use Rattle.fraction_laws.proofs.WrittenOut.{Finite}
use Rattle.point_laws.proofs.PointForms.{Id, Max}
use Rattle.fraction_laws.proofs.Scalars.{Scalars, sum_of, Dim}
use Rattle.fraction_laws.proofs.Settings.{EachN}

-- a search through the lists of n numbers below a bound
lists : (b n : ℕ) (W : List ℕ → Type 0) → ((cs : List ℕ) → Dec (W cs)) → Dec ((cs : List ℕ) × length cs ≡ n × EachN (λ c. c < b) cs × W cs)
lists b zero W f = go (f [])
  where
    empty : (cs : List ℕ) → length cs ≡ 0 → W cs → W []
    empty [] e w = w
    empty (c ∷ cs) e w = absurd (omega arith)

    go : Dec (W []) → Dec ((cs : List ℕ) × length cs ≡ 0 × EachN (λ c. c < b) cs × W cs)
    go (yes w) = yes ([], refl, tt, w)
    go (no n) = no (λ w. n (empty w.0 w.1 w.3))
lists b (suc n) W f = go (below b (λ c. (cs : List ℕ) × length cs ≡ n × EachN (λ x. x < b) cs × W (c ∷ cs)) (λ c. lists b n (λ cs. W (c ∷ cs)) (λ cs. f (c ∷ cs))))
  where
    One : ℕ → Type 0
    One c = (cs : List ℕ) × length cs ≡ n × EachN (λ x. x < b) cs × W (c ∷ cs)

    apart : (cs : List ℕ) → length cs ≡ suc n → EachN (λ c. c < b) cs → W cs → (c : ℕ) × (c < b) × ((ds : List ℕ) × length ds ≡ n × EachN (λ x. x < b) ds × W (c ∷ ds))
    apart [] e s w = absurd (omega arith)
    apart (c ∷ cs) e s w = (c, s.0, (cs, (let q : length (c ∷ cs) ≡ suc n = e in omega arith), s.1, w))

    go : Dec ((c : ℕ) × (c < b) × ((cs : List ℕ) × length cs ≡ n × EachN (λ x. x < b) cs × W (c ∷ cs))) → Dec ((cs : List ℕ) × length cs ≡ suc n × EachN (λ c. c < b) cs × W cs)
    go (yes w) = yes (w.0 ∷ w.2.0, ap suc w.2.1, (w.1, w.2.2), w.2.3)
    go (no m) = no (λ w. m (apart w.0 w.1 w.2 w.3))

module _ (Q : CommRing) (d : Q.carrier) where
  open Q use {carrier, ◌≈◌, ◌⊕◌, ◌⊗◌, neg, 𝟘, 𝟙, rfl, symm, trans, add_cong, mul_cong, neg_cong, add_assoc, add_comm, add_zero, add_neg, mul_assoc, mul_comm, mul_one, distrib}

  infix 40 ◌≈◌
  infixl 60 ◌⊕◌
  infixl 70 ◌⊗◌
  abbrev I : List carrier → carrier → Type 0
  I = Id Q.ops d

  pub id_resp : (l : List carrier) (x y : carrier) → x ≈ y → I l x → I l y
  id_resp [] x y e h = (h.0, trans (symm e) h.1)
  id_resp (p ∷ l) x y e h = (h.0, id_resp l _ _ (add_cong e (rfl _)) h.1)

  pub id_add : (l : List carrier) (x y : carrier) → I l x → I l y → I l (x ⊕ y)
  id_add [] x y h k = (h.0 ⊕ k.0, trans (add_cong h.1 k.1) (symm (distrib _ _ _)))
  id_add (p ∷ l) x y h k = (h.0 ⊕ k.0, id_resp l _ _ (ring_as Q (x ∷ y ∷ h.0 ∷ k.0 ∷ p ∷ []) (v0 +: minus (v2 *: v4) +: (v1 +: minus (v3 *: v4))) (v0 +: v1 +: minus ((v2 +: v3) *: v4)) tt) (id_add l _ _ h.1 k.1))

  pub id_mul : (l : List carrier) (c x : carrier) → I l x → I l (c ⊗ x)
  id_mul [] c x h = (c ⊗ h.0, trans (mul_cong (rfl c) h.1) (ring_as Q (c ∷ d ∷ h.0 ∷ []) (v0 *: (v1 *: v2)) (v1 *: (v0 *: v2)) tt))
  id_mul (p ∷ l) c x h = (c ⊗ h.0, id_resp l _ _ (ring_as Q (c ∷ x ∷ h.0 ∷ p ∷ []) (v0 *: (v1 +: minus (v2 *: v3))) (v0 *: v1 +: minus (v0 *: v2 *: v3)) tt) (id_mul l c _ h.1))

  pub id_more : (l : List carrier) (p x : carrier) → I l x → I (p ∷ l) x
  id_more l p x h = (𝟘, id_resp l _ _ (ring_as Q (x ∷ p ∷ []) v0 (v0 +: minus (c0 *: v1)) tt) h)

  pub id_d : (l : List carrier) (q : carrier) → I l (d ⊗ q)
  id_d [] q = (q, rfl _)
  id_d (p ∷ l) q = id_more l p _ (id_d l q)

  pub id_none : (l : List carrier) → I l 𝟘
  id_none l = id_resp l _ _ (ring_as Q (d ∷ []) (v0 *: c0) c0 tt) (id_d l 𝟘)

  pub id_head : (l : List carrier) (p : carrier) → I (p ∷ l) p
  id_head l p = (𝟙, id_resp l _ _ (ring_as Q (p ∷ []) c0 (v0 +: minus (c1 *: v0)) tt) (id_none l))

  -- what a member of an ideal adds, the ideal has
  pub id_absorb : (l : List carrier) (p x : carrier) → I l p → I (p ∷ l) x → I l x
  id_absorb l p x h w = id_resp l _ _ (ring_as Q (x ∷ w.0 ∷ p ∷ []) (v0 +: minus (v1 *: v2) +: v1 *: v2) v0 tt) (id_add l _ _ w.1 (id_mul l w.0 p h))

  pub id_mono : (l m : List carrier) → ((x : carrier) → I l x → I m x) → (p x : carrier) → I (p ∷ l) x → I (p ∷ m) x
  id_mono l m f p x h = (h.0, f _ h.1)

  -- one of two heads in the place of the other
  pub id_head_swap : (l : List carrier) (p r q x : carrier) → p ≈ r ⊕ d ⊗ q → I (r ∷ l) x → I (p ∷ l) x
  id_head_swap l p r q x e h = (
    h.0,
    id_resp l _ _
        (trans (ring_as Q (x ∷ h.0 ∷ r ∷ d ∷ q ∷ []) (v0 +: minus (v1 *: v2) +: minus v1 *: (v3 *: v4)) (v0 +: minus (v1 *: (v2 +: v3 *: v4))) tt) (add_cong (rfl x) (neg_cong (mul_cong (rfl h.0) (symm e)))))
        (id_add l _ _ h.1 (id_mul l (neg h.0) _ (id_d l q))),
  )

  module _ (S : Scalars Q.ops) (n : ℕ) (D : Dim Q.ops S.p S.scal d n) where
    open S use {p as prime, scal}

    sm : List ℕ → carrier
    unfolding pow
    sm cs = sum_of Q.ops S.p S.scal d cs D.0

    pub dec_id : (l : List carrier) (x : carrier) → Dec (I l x)
    unfolding sm pow
    dec_id [] x = dec_mult Q S d n D x
    dec_id (p ∷ l) x = go (lists prime n (λ cs. I l (x ⊕ neg (sm cs ⊗ p))) (λ cs. dec_id l (x ⊕ neg (sm cs ⊗ p))))
      where
        digits : I (p ∷ l) x → (cs : List ℕ) × length cs ≡ n × EachN (λ c. c < prime) cs × I l (x ⊕ neg (sm cs ⊗ p))
        digits h = let w = D.2 h.0 in (
          w.0,
          w.2 ∙ D.1,
          w.3,
          id_resp l _ _
              (trans (add_cong (add_cong (rfl x) (neg_cong (mul_cong w.4 (rfl p)))) (rfl _))
              (ring_as Q (x ∷ sum_of Q.ops S.p S.scal d w.0 D.0 ∷ d ∷ w.1 ∷ p ∷ []) (v0 +: minus ((v1 +: v2 *: v3) *: v4) +: v2 *: (v3 *: v4)) (v0 +: minus (v1 *: v4)) tt))
              (id_add l _ _ h.1 (id_d l (w.1 ⊗ p))),
        )

        go : Dec ((cs : List ℕ) × length cs ≡ n × EachN (λ c. c < prime) cs × I l (x ⊕ neg (sm cs ⊗ p))) → Dec (I (p ∷ l) x)
        go (yes w) = yes (sm w.0, w.3)
        go (no m) = no (λ h. m (digits h))

    -- the lists of digits below a bound at the first place
    Settled : List carrier → List ℕ → Type 0
    Settled m cs = I m (sm cs) ⊎ I (sm cs ∷ m) 𝟙

    abbrev Grown : List carrier → (List ℕ → Type 0) → Type 0
    Grown l V = (m : List carrier) × ¬ (I m 𝟙) × ((x : carrier) → I l x → I m x) × ((cs : List ℕ) → V cs → Settled m cs)

    settled_more : (l m : List carrier) → ((x : carrier) → I l x → I m x) → (cs : List ℕ) → Settled l cs → Settled m cs
    unfolding Settled
    settled_more l m f cs (inl h) = inl (f _ h)
    settled_more l m f cs (inr h) = inr (id_mono l m f _ _ h)

    grow_one : (cs : List ℕ) (l : List carrier) → ¬ (I l 𝟙) → Grown l (λ ds. ds ≡ cs)
    unfolding Settled
    grow_one cs l h = go (dec_id (sm cs ∷ l) 𝟙)
      where
        go : Dec (I (sm cs ∷ l) 𝟙) → Grown l (λ ds. ds ≡ cs)
        go (yes y) = (l, h, λ x k. k, λ ds e. subst (Settled l) (sym e) (inr y))
        go (no m) = (sm cs ∷ l, m, id_more l (sm cs), λ ds e. subst (Settled (sm cs ∷ l)) (sym e) (inl (id_head l (sm cs))))

    abbrev Step : (List ℕ → Type 0) → Type 0
    Step V = (l : List carrier) → ¬ (I l 𝟙) → Grown l V

    grow_map : (V W : List ℕ → Type 0) → ((cs : List ℕ) → W cs → V cs) → Step V → Step W
    grow_map V W f s l h = let g = s l h in (g.0, g.1, g.2, λ cs w. g.3 cs (f cs w))

    grow_both : (V W : List ℕ → Type 0) → Step V → Step W → Step (λ cs. V cs ⊎ W cs)
    grow_both V W s t l h = join (s l h)
      where
        join : Grown l V → Grown l (λ cs. V cs ⊎ W cs)
        join g = let k = t g.0 g.1 in (k.0, k.1, λ x hx. k.2 x (g.2 x hx), λ cs w. pick cs w)
          where
            pick : (cs : List ℕ) → V cs ⊎ W cs → Settled (t g.0 g.1).0 cs
            pick cs (inl v) = settled_more g.0 (t g.0 g.1).0 (t g.0 g.1).2 cs (g.3 cs v)
            pick cs (inr w) = (t g.0 g.1).3 cs w

    grow_below : (b : ℕ) (V : ℕ → List ℕ → Type 0) → ((c : ℕ) → Step (V c)) → Step (λ cs. (c : ℕ) × (c < b) × V c cs)
    grow_below zero V f l h = (l, h, λ x k. k, λ cs w. absurd (none w.0 w.1))
      where
        none : (c : ℕ) → c < 0 → ⊥
        none c l = omega arith
    grow_below (suc b) V f l h = grow_map (λ cs. V b cs ⊎ ((c : ℕ) × (c < b) × V c cs)) (λ cs. (c : ℕ) × (c < suc b) × V c cs) (λ cs w. sort cs w.0 w.1 w.2) (grow_both (V b) (λ cs. (c : ℕ) × (c < b) × V c cs) (f b) (grow_below b V f)) l h
      where
        sort : (cs : List ℕ) (c : ℕ) → c < suc b → V c cs → V b cs ⊎ ((c : ℕ) × (c < b) × V c cs)
        sort cs c q v = go (ℕ_discrete c b)
          where
            go : Dec (c ≡ b) → V b cs ⊎ ((c : ℕ) × (c < b) × V c cs)
            go (yes e) = inl (subst (λ k. V k cs) e v)
            go (no e) = inr (c, omega arith, v)

    grow_lists : (k : ℕ) (front : List ℕ → List ℕ) → Step (λ ds. (cs : List ℕ) × length cs ≡ k × EachN (λ c. c < prime) cs × ds ≡ front cs)
    grow_lists zero front = grow_map (λ ds. ds ≡ front []) (λ ds. (cs : List ℕ) × length cs ≡ 0 × EachN (λ c. c < prime) cs × ds ≡ front cs) (λ ds w. empty w.0 w.1 ds w.3) (grow_one (front []))
      where
        empty : (cs : List ℕ) → length cs ≡ 0 → (ds : List ℕ) → ds ≡ front cs → ds ≡ front []
        empty [] e ds w = w
        empty (c ∷ cs) e ds w = absurd (omega arith)
    grow_lists (suc k) front =
        grow_map (λ ds. (c : ℕ) × (c < prime) × ((cs : List ℕ) × length cs ≡ k × EachN (λ x. x < prime) cs × ds ≡ front (c ∷ cs)))
        (λ ds. (cs : List ℕ) × length cs ≡ suc k × EachN (λ c. c < prime) cs × ds ≡ front cs) (λ ds w. apart w.0 w.1 w.2 ds w.3)
        (grow_below prime (λ c ds. (cs : List ℕ) × length cs ≡ k × EachN (λ x. x < prime) cs × ds ≡ front (c ∷ cs)) (λ c. grow_lists k (λ cs. front (c ∷ cs))))
      where
        apart : (cs : List ℕ) → length cs ≡ suc k → EachN (λ c. c < prime) cs → (ds : List ℕ) → ds ≡ front cs → (c : ℕ) × (c < prime) × ((es : List ℕ) × length es ≡ k × EachN (λ x. x < prime) es × ds ≡ front (c ∷ es))
        apart [] e s ds w = absurd (omega arith)
        apart (c ∷ cs) e s ds w = (c, s.0, (cs, (let q : length (c ∷ cs) ≡ suc k = e in omega arith), s.1, w))

    -- each proper ideal lies in a maximal one
    pub extend : (l : List carrier) → ¬ (I l 𝟙) → (m : List carrier) × Max Q.ops d m × ((x : carrier) → I l x → I m x)
    unfolding Settled sm pow
    extend l h = (g.0, (g.1, all), g.2)
      where
        g : Grown l (λ ds. (cs : List ℕ) × length cs ≡ n × EachN (λ c. c < prime) cs × ds ≡ cs)
        g = grow_lists n (λ cs. cs) l h

        all : (f : carrier) → I g.0 f ⊎ I (f ∷ g.0) 𝟙
        all f = go (g.3 (D.2 f).0 ((D.2 f).0, (D.2 f).2 ∙ D.1, (D.2 f).3, refl))
          where
            go : Settled g.0 (D.2 f).0 → I g.0 f ⊎ I (f ∷ g.0) 𝟙
            go (inl k) = inl (id_resp g.0 _ _ (symm (D.2 f).4) (id_add g.0 _ _ k (id_d g.0 _)))
            go (inr k) = inr (id_head_swap g.0 f _ _ 𝟙 (D.2 f).4 k)

    -- a member of all maximal ideals has a power that is a multiple of d
    pub nilpotent : (x : carrier) → ((m : List carrier) → Max Q.ops d m → I m x) → (i : ℕ) × I [] (pow Q.ops x i)
    unfolding pow
    nilpotent x f = go (pigeonhole F.size (λ i. F.digit (pow Q.ops x i)) (λ i l. F.digit_lt (pow Q.ops x i)))
      where
        F : Finite Q d
        F = finite Q S d n D

        go : HasTwice (λ i. F.digit (pow Q.ops x i)) F.size → (i : ℕ) × I [] (pow Q.ops x i)
        go w = (w.0, by (dec_id (z ∷ []) 𝟙))
          where
            m : ℕ
            m = w.1 - suc w.0

            z : carrier
            z = 𝟙 ⊕ neg (pow Q.ops x (suc m))

            split : pow Q.ops x w.1 ≈ pow Q.ops x w.0 ⊗ pow Q.ops x (suc m)
            split = trans (pow_same Q x w.1 (w.0 + suc m) (let l : w.0 < w.1 = w.2 in omega arith)) (pow-add Q x w.0 (suc m))

            near : pow Q.ops x w.0 ⊗ z ≈ d ⊗ (F.over (pow Q.ops x w.0) ⊕ neg (F.over (pow Q.ops x w.1)))
            near = trans (ring_as Q (pow Q.ops x w.0 ∷ pow Q.ops x (suc m) ∷ d ∷ F.over (pow Q.ops x w.1) ∷ []) (v0 *: (c1 +: minus v1)) (v0 +: v2 *: v3 +: minus (v0 *: v1) +: minus (v2 *: v3)) tt)
                (trans (add_cong (add_cong (F.digit_same (pow Q.ops x w.0) (pow Q.ops x w.1) w.4) (neg_cong (symm split))) (rfl _))
                (ring_as Q (pow Q.ops x w.1 ∷ d ∷ F.over (pow Q.ops x w.0) ∷ F.over (pow Q.ops x w.1) ∷ []) (v0 +: v1 *: v2 +: minus v0 +: minus (v1 *: v3)) (v1 *: (v2 +: minus v3)) tt))

            by : Dec (I (z ∷ []) 𝟙) → I [] (pow Q.ops x w.0)
            by (yes h) = (
              h.0 ⊗ (F.over (pow Q.ops x w.0) ⊕ neg (F.over (pow Q.ops x w.1))) ⊕ pow Q.ops x w.0 ⊗ h.1.0,
              trans (ring_as Q (pow Q.ops x w.0 ∷ h.0 ∷ z ∷ []) v0 (v1 *: (v0 *: v2) +: v0 *: (c1 +: minus (v1 *: v2))) tt)
                  (trans (add_cong (mul_cong (rfl h.0) near) (mul_cong (rfl _) h.1.1))
                  (ring_as Q (h.0 ∷ d ∷ (F.over (pow Q.ops x w.0) ⊕ neg (F.over (pow Q.ops x w.1))) ∷ pow Q.ops x w.0 ∷ h.1.0 ∷ []) (v0 *: (v1 *: v2) +: v3 *: (v1 *: v4)) (v1 *: (v0 *: v2 +: v3 *: v4)) tt)),
            )
            by (no h) =
                let g = extend (z ∷ []) h in
                absurd (g.1.0 (id_resp g.0 _ _ (ring_as Q (pow Q.ops x (suc m) ∷ []) (c1 +: minus v0 +: v0) c1 tt)
                (id_add g.0 _ _ (g.2 z (id_head [] z)) (id_resp g.0 _ _ (mul_comm _ _) (id_mul g.0 (pow Q.ops x m) x (f g.0 g.1))))))

  -- a maximal ideal has all members of an ideal, or generates 1 with it
  pub apart_or_in : (t : List carrier) → Max Q.ops d t → (u : List carrier) → ((x : carrier) × (y : carrier) × I t x × I u y × x ⊕ y ≈ 𝟙) ⊎ ((x : carrier) → I u x → I t x)
  apart_or_in t h [] = inr (λ x w. id_resp t _ _ (symm w.1) (id_d t w.0))
  apart_or_in t h (p ∷ u) = go (apart_or_in t h u)
    where
      Ans : Type 0
      Ans = ((x : carrier) × (y : carrier) × I t x × I (p ∷ u) y × x ⊕ y ≈ 𝟙) ⊎ ((x : carrier) → I (p ∷ u) x → I t x)

      next : ((x : carrier) → I u x → I t x) → I t p ⊎ I (p ∷ t) 𝟙 → Ans
      next g (inl k) = inr (λ x w. id_resp t _ _ (ring_as Q (x ∷ w.0 ∷ p ∷ []) (v0 +: minus (v1 *: v2) +: v1 *: v2) v0 tt) (id_add t _ _ (g _ w.1) (id_mul t w.0 p k)))
      next g (inr w) = inl (𝟙 ⊕ neg (w.0 ⊗ p), w.0 ⊗ p, w.1, id_mul (p ∷ u) w.0 p (id_head u p), ring_as Q (w.0 ∷ p ∷ []) (c1 +: minus (v0 *: v1) +: v0 *: v1) c1 tt)

      go : ((x : carrier) × (y : carrier) × I t x × I u y × x ⊕ y ≈ 𝟙) ⊎ ((x : carrier) → I u x → I t x) → Ans
      go (inl w) = inl (w.0, w.1, w.2, id_more u p _ w.3, w.4)
      go (inr g) = next g (h.1 p)
