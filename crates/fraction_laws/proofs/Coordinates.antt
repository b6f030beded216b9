-- From the dimension: unique digits, a test for multiples of d, and finitely many digits.
use Rattle.std.proofs.Common.{◌≡◌, refl, sym, ap, subst, ◌∙◌, ap₂, ℕ, zero, suc, ◌+◌, ◌*◌, ◌<◌, ◌⊎◌, inl, inr, List, [], ◌∷◌, length, arith}
use native.Mathlib.Decide.{ℕ_discrete}
use Rattle.comm_ring.proofs.Derived.{one_mul, zero_mul, zero_add}
use Rattle.comm_ring.proofs.Expressions.{c0, ◌+:◌, ◌*:◌, minus, v0, v1, v2, v3, v4, v5, v6, ring_as}
use Rattle.comm_ring.specs.Ring.{CommRing, pow}
use Rattle.comm_ring.proofs.PlaceValues.{digit_high, digit_low, digit_room}
use Rattle.fraction_laws.proofs.WrittenOut.{Finite}
use Rattle.fraction_laws.proofs.Scalars.{Scalars, sum_of, Spanned, Dim}
use Rattle.fraction_laws.proofs.Settings.{EachN}

abbrev Zero : List ℕ → Type 0
Zero cs = EachN (λ c. c ≡ 0) cs

module _ (Q : CommRing) (S : Scalars Q.ops) (d : Q.carrier) where
  open Q use {carrier, ◌≈◌, ◌⊕◌, ◌⊗◌, neg, 𝟘, 𝟙, rfl, symm, trans, add_cong, mul_cong, neg_cong, add_assoc, add_comm, add_zero, add_neg, mul_assoc, mul_comm, mul_one, distrib}
  open S use {p, scal, scal_zero, inverse, comb}

  infix 40 ◌≈◌
  infixl 60 ◌⊕◌
  infixl 70 ◌⊗◌
  abbrev sm : List ℕ → List carrier → carrier
  sm = sum_of Q.ops S.p S.scal d

  abbrev Small : List ℕ → Type 0
  Small cs = EachN (λ c. c < p) cs

  -- a multiple of d
  abbrev pub Mult : carrier → Type 0
  Mult x = (q : carrier) × x ≈ d ⊗ q

  zero_sum : (cs : List ℕ) (us : List carrier) → Zero cs → sm cs us ≈ 𝟘
  zero_sum [] us z = rfl 𝟘
  zero_sum (c ∷ cs) [] z = rfl 𝟘
  zero_sum (c ∷ cs) (u ∷ us) z = trans (add_cong (trans (mul_cong (subst (λ k. scal k ≈ 𝟘) (sym z.0) scal_zero) (rfl u)) (zero_mul Q u)) (zero_sum cs us z.1)) (add_zero 𝟘)

  -- bs - t e cs, member by member
  combine : (us : List carrier) (t e : ℕ) → t < p → e < p → (bs cs : List ℕ) → Small bs → Small cs → length bs ≡ length us → length cs ≡ length us
      → (rs : List ℕ) × length rs ≡ length us × Small rs × sm rs us ≈ sm bs us ⊕ neg ((scal t ⊗ scal e) ⊗ sm cs us)
  combine [] t e lt le [] [] hb hc lb lc = ([], refl, tt, ring_as Q (scal t ∷ scal e ∷ []) c0 (c0 +: minus (v0 *: v1 *: c0)) tt)
  combine [] t e lt le (b ∷ bs) cs hb hc lb lc = absurd (omega arith)
  combine [] t e lt le [] (c ∷ cs) hb hc lb lc = absurd (omega arith)
  combine (u ∷ us) t e lt le [] cs hb hc lb lc = absurd (omega arith)
  combine (u ∷ us) t e lt le (b ∷ bs) [] hb hc lb lc = absurd (omega arith)
  combine (u ∷ us) t e lt le (b ∷ bs) (c ∷ cs) hb hc lb lc =
      let h = combine us t e lt le bs cs hb.1 hc.1 (omega arith) (omega arith) in
      let r = comb b t e c hb.0 lt le hc.0 in (
        r.0 ∷ h.0,
        ap suc h.1,
        (r.1, h.2),
        trans (add_cong (mul_cong r.2 (rfl u)) h.3)
            (ring_as Q (scal b ∷ scal t ∷ scal e ∷ scal c ∷ u ∷ sm bs us ∷ sm cs us ∷ []) ((v0 +: minus (v1 *: v2 *: v3)) *: v4 +: (v5 +: minus (v1 *: v2 *: v6))) (v0 *: v4 +: v5 +: minus (v1 *: v2 *: (v3 *: v4 +: v6))) tt),
      )

  keep : (u : carrier) (us vs : List carrier) → ((f : carrier) → Spanned Q.ops S.p S.scal d us f → Spanned Q.ops S.p S.scal d vs f) → (f : carrier) (bs : List ℕ) (q : carrier) → length bs ≡ length (u ∷ us) → Small bs → f ≈ sm bs (u ∷ us) ⊕ (d ⊗ q) → Spanned Q.ops S.p S.scal d (u ∷ vs) f
  keep u us vs g f [] q l h e = absurd (omega arith)
  keep u us vs g f (b ∷ bs) q l h e =
      let w = g (sm bs us ⊕ (d ⊗ q)) (bs, q, (let k : length (b ∷ bs) ≡ length (u ∷ us) = l in omega arith), h.1, rfl _) in
      (b ∷ w.0, w.1, ap suc w.2, (h.0, w.3), trans e (trans (add_assoc _ _ _) (trans (add_cong (rfl _) w.4) (symm (add_assoc _ _ _)))))

  without : (u : carrier) (us : List carrier) (c : ℕ) (cs : List ℕ) → length cs ≡ length us → c < p → Small cs → ¬ (c ≡ 0) → Mult (sm (c ∷ cs) (u ∷ us))
      → (f : carrier) (bs : List ℕ) (q : carrier) → length bs ≡ length (u ∷ us) → Small bs → f ≈ sm bs (u ∷ us) ⊕ (d ⊗ q) → Spanned Q.ops S.p S.scal d us f
  without u us c cs lc hc hcs n m f [] q l h e = absurd (omega arith)
  without u us c cs lc hc hcs n m f (b ∷ bs) q l h e =
      let i = inverse c (omega arith) hc in
      let r = combine us b i.0 h.0 i.1 bs cs h.1 hcs (let k : length (b ∷ bs) ≡ length (u ∷ us) = l in omega arith) lc in
      let x : carrier = scal b in
      let y : carrier = scal i.0 in
      let cu : scal c ⊗ u ≈ d ⊗ m.0 ⊕ neg (sm cs us) =
      trans (ring_as Q (scal c ∷ u ∷ sm cs us ∷ []) (v0 *: v1) (v0 *: v1 +: v2 +: minus v2) tt) (add_cong m.1 (rfl _)) in
      let uu : u ≈ y ⊗ (d ⊗ m.0 ⊕ neg (sm cs us)) =
      trans (symm (one_mul Q u)) (trans (mul_cong (symm i.2) (rfl u)) (trans (mul_assoc _ _ _) (mul_cong (rfl y) cu))) in (
        r.0,
        q ⊕ (x ⊗ y ⊗ m.0),
        r.1,
        r.2,
        trans e (trans (add_cong (add_cong (mul_cong (rfl x) uu) (rfl _)) (rfl _))
            (trans (ring_as Q (x ∷ y ∷ d ∷ m.0 ∷ sm cs us ∷ sm bs us ∷ q ∷ []) (v0 *: (v1 *: (v2 *: v3 +: minus v4)) +: v5 +: v2 *: v6) (v5 +: minus (v0 *: v1 *: v4) +: v2 *: (v6 +: v0 *: v1 *: v3)) tt)
            (add_cong (symm r.3) (rfl _)))),
      )

  abbrev Shorter : List carrier → Type 0
  Shorter us = (vs : List carrier) × suc (length vs) ≡ length us × ((f : carrier) → Spanned Q.ops S.p S.scal d us f → Spanned Q.ops S.p S.scal d vs f)

  -- a list with a relation modulo d can be shortened
  shorten : (us : List carrier) (cs : List ℕ) → length cs ≡ length us → Small cs → Mult (sm cs us) → Zero cs ⊎ Shorter us
  shorten us [] e s m = inl tt
  shorten [] (c ∷ cs) e s m = absurd (omega arith)
  shorten (u ∷ us) (c ∷ cs) e s m = go (ℕ_discrete c 0) (shorten us cs lcs s.1)
    where
      lcs : length cs ≡ length us
      lcs = let k : length (c ∷ cs) ≡ length (u ∷ us) = e in omega arith

      after : Zero cs ⊎ Shorter us → c ≡ 0 → Zero (c ∷ cs) ⊎ Shorter (u ∷ us)
      after (inl h) z = inl (z, h)
      after (inr h) z = inr (u ∷ h.0, ap suc h.1, λ f w. keep u us h.0 h.2 f w.0 w.1 w.2 w.3 w.4)

      go : Dec (c ≡ 0) → (Mult (sm cs us) → Zero cs ⊎ Shorter us) → Zero (c ∷ cs) ⊎ Shorter (u ∷ us)
      go (yes z) f = after (f (m.0, trans (symm (trans (add_cong (trans (mul_cong (subst (λ k. scal k ≈ 𝟘) (sym z) scal_zero) (rfl u)) (zero_mul Q u)) (rfl _)) (zero_add Q _))) m.1)) z
      go (no n) f = inr (us, refl, λ f w. without u us c cs lcs s.0 s.1 n m f w.0 w.1 w.2 w.3 w.4)

  module _ (n : ℕ) (D : Dim Q.ops S.p S.scal d n) where
    pub unique : (cs : List ℕ) → length cs ≡ n → Small cs → Mult (sm cs D.0) → Zero cs
    unfolding pow
    unique cs l s m = go (shorten D.0 cs (l ∙ sym D.1) s m)
      where
        go : Zero cs ⊎ Shorter D.0 → Zero cs
        go (inl z) = z
        go (inr h) = absurd (D.3 h.0 (let e : suc (length h.0) ≡ length D.0 = h.1 in let k : length D.0 ≡ n = D.1 in omega arith) (λ f. h.2 f (D.2 f)))

    dec_zero : (cs : List ℕ) → Dec (Zero cs)
    dec_zero [] = yes tt
    dec_zero (c ∷ cs) = go (ℕ_discrete c 0) (dec_zero cs)
      where
        go : Dec (c ≡ 0) → Dec (Zero cs) → Dec (Zero (c ∷ cs))
        go (yes z) (yes h) = yes (z, h)
        go (yes z) (no h) = no (λ k. h k.1)
        go (no z) h = no (λ k. z k.0)

    -- multiples of d are decided
    pub dec_mult : (f : carrier) → Dec (Mult f)
    unfolding pow
    dec_mult f = go (dec_zero (D.2 f).0)
      where
        w : Spanned Q.ops S.p S.scal d D.0 f
        w = D.2 f

        go : Dec (Zero (D.2 f).0) → Dec (Mult f)
        go (yes z) = yes ((D.2 f).1, trans (D.2 f).4 (trans (add_cong (zero_sum _ _ z) (rfl _)) (zero_add Q _)))
        go (no z) = no (λ m. z (unique (D.2 f).0 ((D.2 f).2 ∙ D.1) (D.2 f).3 (
          m.0 ⊕ neg (D.2 f).1,
          trans (ring_as Q (sm (D.2 f).0 D.0 ∷ d ∷ (D.2 f).1 ∷ []) v0 (v0 +: v1 *: v2 +: minus (v1 *: v2)) tt)
              (trans (add_cong (trans (symm (D.2 f).4) m.1) (rfl _)) (ring_as Q (d ∷ m.0 ∷ (D.2 f).1 ∷ []) (v0 *: v1 +: minus (v0 *: v2)) (v0 *: (v1 +: minus v2)) tt)),
        )))

    enc : List ℕ → ℕ
    enc [] = 0
    enc (c ∷ cs) = c + p * enc cs

    room : ℕ → ℕ
    room zero = 1
    room (suc k) = p * room k

    enc_lt : (cs : List ℕ) → Small cs → enc cs < room (length cs)
    unfolding enc room
    enc_lt [] s = omega arith
    enc_lt (c ∷ cs) s = digit_room p (room (length cs)) c (enc cs) s.0 (enc_lt cs s.1)

    enc_same : (cs ds : List ℕ) → length cs ≡ length ds → Small cs → Small ds → enc cs ≡ enc ds → cs ≡ ds
    unfolding enc
    enc_same [] [] l s t e = refl
    enc_same [] (x ∷ ds) l s t e = absurd (omega arith)
    enc_same (c ∷ cs) [] l s t e = absurd (omega arith)
    enc_same (c ∷ cs) (x ∷ ds) l s t e =
        let h : enc cs ≡ enc ds = digit_high p _ _ _ _ s.0 t.0 e in
        let k : c ≡ x = digit_low p _ _ _ _ e h in
        ap₂ ◌∷◌ k (enc_same cs ds (let q : length (c ∷ cs) ≡ length (x ∷ ds) = l in omega arith) s.1 t.1 h)

    pub finite : Finite Q d
    unfolding enc pow
    finite = record {
      size = room n;
      digit = λ x. enc (D.2 x).0;
      over = λ x. (D.2 x).1;
      digit_lt = λ x. subst (λ k. enc (D.2 x).0 < room k) ((D.2 x).2 ∙ D.1) (enc_lt (D.2 x).0 (D.2 x).3);
      digit_same = λ x y e.
          let q : (D.2 x).0 ≡ (D.2 y).0 = enc_same (D.2 x).0 (D.2 y).0 ((D.2 x).2 ∙ sym (D.2 y).2) (D.2 x).3 (D.2 y).3 e in
          trans (add_cong (D.2 x).4 (rfl _))
          (trans (add_cong (add_cong (subst (λ k. sm (D.2 x).0 D.0 ≈ sm k D.0) q (rfl _)) (rfl _)) (rfl _))
          (trans (ring_as Q (sm (D.2 y).0 D.0 ∷ d ∷ (D.2 x).1 ∷ (D.2 y).1 ∷ []) (v0 +: v1 *: v2 +: v1 *: v3) (v0 +: v1 *: v3 +: v1 *: v2) tt)
          (add_cong (symm (D.2 y).4) (rfl _))));
    }

    -- multiples of a power of d are decided
    pub dec_power : ((x y : carrier) → d ⊗ x ≈ d ⊗ y → x ≈ y) → (k : ℕ) (f : carrier) → Dec ((q : carrier) × f ≈ q ⊗ pow Q.ops d k)
    unfolding pow
    dec_power cancel zero f = yes (f, symm (mul_one f))
    dec_power cancel (suc k) f = go (dec_mult f) (λ x. dec_power cancel k x)
      where
        Want : ℕ → carrier → Type 0
        Want k x = (q : carrier) × x ≈ q ⊗ pow Q.ops d k

        next : (m : Mult f) → Dec ((q : carrier) × m.0 ≈ q ⊗ pow Q.ops d k) → Dec ((q : carrier) × f ≈ q ⊗ pow Q.ops d (suc k))
        next m (yes h) = yes (h.0, trans m.1 (trans (mul_cong (rfl d) h.1) (ring_as Q (d ∷ h.0 ∷ pow Q.ops d k ∷ []) (v0 *: (v1 *: v2)) (v1 *: (v0 *: v2)) tt)))
        next m (no h) = no (λ w. h (w.0, cancel _ _ (trans (symm m.1) (trans w.1 (ring_as Q (d ∷ w.0 ∷ pow Q.ops d k ∷ []) (v1 *: (v0 *: v2)) (v0 *: (v1 *: v2)) tt)))))

        go : Dec (Mult f) → ((x : carrier) → Dec ((q : carrier) × x ≈ q ⊗ pow Q.ops d k)) → Dec ((q : carrier) × f ≈ q ⊗ pow Q.ops d (suc k))
        go (yes m) g = next m (g m.0)
        go (no m) g = no (λ w. m (w.0 ⊗ pow Q.ops d k, trans w.1 (ring_as Q (d ∷ w.0 ∷ pow Q.ops d k ∷ []) (v1 *: (v0 *: v2)) (v0 *: (v1 *: v2)) tt)))
