-- Dimension over a field: bases, unique coordinates, decided membership, and additivity.
use Rattle.std.proofs.Common.{◌≡◌, ◌⊎◌, inl, inr, ℕ, suc, ◌+◌, ◌≤◌, List, [], ◌∷◌, ◌++◌, length, map, All, refl, sym, subst, ◌∙◌, arith, length-append}
use Rattle.std.specs.List.{AllZip}
use Rattle.std.proofs.lemmas.List.Elements.{All-nil, All-cons, All-head, All-tail, All-append, All-weaker, All-map}
use Rattle.std.proofs.lemmas.List.{length-map}
use Rattle.comm_ring.specs.Ring.{CommRing}
use Rattle.comm_ring.specs.Modules.{IsSubmodule, IsField, combine, combination, InSpan, Spans, DimensionOf, modulo, IsEmbedding, Independent, IsBasis}
use Rattle.comm_ring.proofs.Derived as Derived
use Rattle.comm_ring.proofs.Modules as Modules
use Rattle.comm_ring.proofs.Modules.{Module}
use Rattle.comm_ring.proofs.Quotients.{quotient, origin_modulo, modulo_origin}
use Rattle.comm_ring.proofs.Exchange as Exchange

module _ (R : CommRing) (F : IsField R.ops) (M : Module R) where
  open M use {ops, carrier, ◌≋◌, ◌⊞◌, opposite, origin, ◌·◌, rfl, symm, trans, add_cong, opposite_cong, scale_cong, add_assoc, add_comm, add_origin, add_opposite, scale_sum, sum_scale, product_scale, one_scale}

  infix 40 ◌≋◌
  infixl 60 ◌⊞◌
  infixr 65 ◌·◌
  infixr 30 ◌⨾◌
  ◌⨾◌ : {x y z : carrier} → x ≋ y → y ≋ z → x ≋ z
  ◌⨾◌ e f = trans e f

  abbrev Zero : R.carrier → Type 0
  Zero c = R.◌≈◌ c R.𝟘

  decide_zeros : (cs : List R.carrier) → Dec (All Zero cs)
  decide_zeros [] = yes (All-nil Zero)
  decide_zeros (c ∷ cs) = go (F.zero_or_inverse c) (decide_zeros cs)
    where
      go : Zero c ⊎ ((e : R.carrier) × R.◌≈◌ (R.◌⊗◌ e c) R.𝟙) → Dec (All Zero cs) → Dec (All Zero (c ∷ cs))
      go (inl z) (yes a) = yes (All-cons Zero c cs z a)
      go (inl z) (no a) = no (λ k. a (All-tail Zero c cs k))
      go (inr i) a = no (λ k. F.proper (R.trans (R.symm i.1) (R.trans (R.mul_cong (R.rfl i.0) (All-head Zero c cs k)) (Derived.mul_zero R i.0))))

  module _ (P : carrier → Type 0) where
    -- a list that spans has at least as many members as independent ones
    pub spans_at_least : (us vs : List carrier) → All P us → Independent R.ops ops us → Spans ops P vs → length us ≤ length vs
    spans_at_least us vs h i s = Exchange.independent_few R F M us vs i (All-weaker P (InSpan ops vs) s us h)

    -- a basis counts the dimension
    pub dimension_of_basis : (us : List carrier) → IsBasis R.ops ops P us → DimensionOf ops P (length us)
    dimension_of_basis us b = (us, refl, b.0, b.1, λ vs h l s. absurd (let k : length us ≤ length vs = spans_at_least us vs b.0 b.2 s in omega arith))

    -- n members that span, while no fewer do, are independent
    pub independent_of_dimension : (n : ℕ) (d : DimensionOf ops P n) → Independent R.ops ops d.0
    independent_of_dimension n d cs l e = go (Exchange.pivot R F M d.0 cs l origin origin (symm e ⨾ symm (Modules.origin_add R M (combination ops cs d.0))))
      where
        go : All Zero cs ⊎ Exchange.Pivot R F M origin origin d.0 → All Zero cs
        go (inl z) = z
        go (inr p) = absurd (d.4 p.0 (Exchange.part_all P p.0 d.0 p.2 d.2)
            (let a : suc (length p.0) ≡ length d.0 = p.1 in let b : length d.0 ≡ n = d.1 in omega arith)
            (λ f h. Modules.span_through R M d.0 p.0 (p.3 p.0 none none (Modules.span_self R M p.0)) f (d.3 f h)))
          where
            none : InSpan ops p.0 origin
            none = (Modules.span_submodule R M p.0).none

    -- members that show a dimension are a basis
    pub basis_of_dimension : (n : ℕ) (d : DimensionOf ops P n) → IsBasis R.ops ops P d.0
    basis_of_dimension n d = (d.2, d.3, independent_of_dimension n d)

    -- every spanning list has at least as many members as the dimension
    pub dimension_least : (n : ℕ) → DimensionOf ops P n → (vs : List carrier) → Spans ops P vs → n ≤ length vs
    dimension_least n d vs s = subst (λ k. k ≤ length vs) d.1 (spans_at_least d.0 vs d.2 (independent_of_dimension n d) s)

    -- independent members are at most as many as the dimension
    pub dimension_most : (n : ℕ) → DimensionOf ops P n → (fs : List carrier) → All P fs → Independent R.ops ops fs → length fs ≤ n
    dimension_most n d fs h i = subst (λ k. length fs ≤ k) d.1 (spans_at_least fs d.0 h i d.3)

    -- a space has one dimension
    pub dimension_unique : (m n : ℕ) → DimensionOf ops P m → DimensionOf ops P n → m ≡ n
    dimension_unique m n d e =
        let a : m ≤ length e.0 = dimension_least m d e.0 e.3 in
        let b : n ≤ length d.0 = dimension_least n e d.0 d.3 in
        let x : length e.0 ≡ n = e.1 in
        let y : length d.0 ≡ m = d.1 in
        omega arith

    -- members of a space of finite dimension that equal the origin are decided
    pub dimension_decides : (n : ℕ) → DimensionOf ops P n → (f : carrier) → P f → Dec (f ≋ origin)
    dimension_decides n d f h = go (decide_zeros (d.3 f h).0)
      where
        go : Dec (All Zero (d.3 f h).0) → Dec (f ≋ origin)
        go (yes z) = yes ((d.3 f h).2 ⨾ Modules.combination-zeros R M (d.3 f h).0 d.0 z)
        go (no z) = no (λ e. z (independent_of_dimension n d (d.3 f h).0 (d.3 f h).1 (symm (d.3 f h).2 ⨾ e)))

  -- coordinates by independent members are unique
  pub unique_coordinates : (us : List carrier) → Independent R.ops ops us → (cs es : List R.carrier) → length cs ≡ length us → length es ≡ length us
      → combination ops cs us ≋ combination ops es us → AllZip R.◌≈◌ cs es
  unfolding Modules.plus Modules.times
  unique_coordinates us i cs es l k e = same cs es (l ∙ sym k) (i (Modules.plus R M cs minus) (Modules.length-plus R M cs minus (l ∙ sym length_minus) ∙ length_minus)
      (Modules.combination-plus R M cs minus us l length_minus ⨾ add_cong e (Modules.combination-times R M (R.neg R.𝟙) es us ⨾ Modules.opposite_is R M (combination ops es us)) ⨾ add_opposite (combination ops es us)))
    where
      minus : List R.carrier
      minus = Modules.times R M (R.neg R.𝟙) es

      length_minus : length minus ≡ length us
      length_minus = Modules.length-times R M (R.neg R.𝟙) es ∙ k

      one : (c b : R.carrier) → Zero (R.◌⊕◌ c (R.◌⊗◌ (R.neg R.𝟙) b)) → R.◌≈◌ c b
      one c b z = Derived.add_right_cancel R c b (R.◌⊗◌ (R.neg R.𝟙) b)
          (R.trans z (R.symm (R.trans (R.add_cong (R.rfl b) (R.trans (Derived.neg_mul R R.𝟙 b) (R.neg_cong (Derived.one_mul R b)))) (R.add_neg b))))

      same : (cs es : List R.carrier) → length cs ≡ length es → All Zero (Modules.plus R M cs (Modules.times R M (R.neg R.𝟙) es)) → AllZip R.◌≈◌ cs es
      same [] [] q h = tt
      same [] (b ∷ es) q h = absurd (omega arith)
      same (c ∷ cs) [] q h = absurd (omega arith)
      same (c ∷ cs) (b ∷ es) q h = (
        one c b (All-head Zero _ _ h),
        same cs es (let r : length (c ∷ cs) ≡ length (b ∷ es) = q in omega arith) (All-tail Zero _ _ h),
      )

-- a inside B inside C: the dimensions of C modulo B and of B modulo A add up to that of C modulo A
module _ (R : CommRing) (F : IsField R.ops) (M : Module R) (A B C : M.carrier → Type 0)
    (a : IsSubmodule M.ops A) (b : IsSubmodule M.ops B) (c : IsSubmodule M.ops C)
    (a_in_b : (x : M.carrier) → A x → B x) (b_in_c : (x : M.carrier) → B x → C x) where
  open M use {ops, carrier, ◌≋◌, ◌⊞◌, opposite, origin, ◌·◌, rfl, symm, trans, add_cong, add_assoc, add_comm}

  infix 40 ◌≋◌
  infixl 60 ◌⊞◌
  infixr 65 ◌·◌
  module _ (us vs : List carrier) (upper : IsBasis R.ops (modulo ops B) C us) (lower : IsBasis R.ops (modulo ops A) B vs) where
    joined_spans : Spans (modulo ops A) C (us ++ vs)
    joined_spans f h =
        let s = upper.1 f h in
        let t = lower.1 (f ⊞ opposite (combination ops s.0 us)) s.2 in (
          s.0 ++ t.0,
          (let l : length s.0 ≡ length us = s.1 in let k : length t.0 ≡ length vs = t.1 in simp length-append (omega arith)),
          a.resp ((f ⊞ opposite (combination ops s.0 us)) ⊞ opposite (combination ops t.0 vs)) (f ⊞ opposite (combination ops (s.0 ++ t.0) (us ++ vs)))
              (trans (add_assoc f (opposite (combination ops s.0 us)) (opposite (combination ops t.0 vs)))
              (add_cong (rfl f) (trans (symm (Modules.opposite_sum R M (combination ops s.0 us) (combination ops t.0 vs))) (M.opposite_cong (symm (Modules.combination-append R M s.0 t.0 us vs s.1))))))
              t.2,
        )

    joined_independent : Independent R.ops (modulo ops A) (us ++ vs)
    joined_independent cs l h = subst (λ es. All (λ e. R.◌≈◌ e R.𝟘) es) (sym t.4) (All-append (λ e. R.◌≈◌ e R.𝟘) t.0 t.1 firsts seconds)
      where
        t : Modules.Parted R M us vs cs
        t = Modules.part R M us vs cs l

        both : A (combination ops t.0 us ⊞ combination ops t.1 vs)
        both = a.resp _ _ (Modules.combination-append R M t.0 t.1 us vs t.2)
            (subst (λ es. A (combination ops es (us ++ vs))) t.4 (modulo_origin R M A a (combination ops cs (us ++ vs)) h))

        second_in : B (combination ops t.1 vs)
        second_in = Modules.combination_in R M B b t.1 vs lower.0

        first_in : B (combination ops t.0 us)
        first_in = b.resp _ _ (Modules.add_undo R M (combination ops t.0 us) (combination ops t.1 vs))
            (Modules.sub_in R M B b (combination ops t.0 us ⊞ combination ops t.1 vs) (combination ops t.1 vs) (a_in_b _ both) second_in)

        firsts : All (λ e. R.◌≈◌ e R.𝟘) t.0
        firsts = upper.2 t.0 t.2 (origin_modulo R M B b (combination ops t.0 us) first_in)

        first_zero : combination ops t.0 us ≋ origin
        first_zero = Modules.combination-zeros R M t.0 us firsts

        seconds : All (λ e. R.◌≈◌ e R.𝟘) t.1
        seconds = lower.2 t.1 t.3 (origin_modulo R M A a (combination ops t.1 vs)
            (a.resp _ _ (trans (add_cong first_zero (rfl (combination ops t.1 vs))) (Modules.origin_add R M (combination ops t.1 vs))) both))

    joined_within : All C (us ++ vs)
    joined_within = All-append C us vs upper.0 (All-weaker B C b_in_c vs lower.0)

    -- a basis of C modulo B and one of B modulo A are together a basis of C modulo A
    pub joined_basis : IsBasis R.ops (modulo ops A) C (us ++ vs)
    joined_basis = (joined_within, joined_spans, joined_independent)

  -- so their numbers add
  pub dimension_adds : (m n : ℕ) → DimensionOf (modulo ops B) C m → DimensionOf (modulo ops A) B n → DimensionOf (modulo ops A) C (m + n)
  dimension_adds m n d e = subst (λ k. DimensionOf (modulo ops A) C k)
      (let x : length d.0 ≡ m = d.1 in let y : length e.0 ≡ n = e.1 in simp length-append (omega arith))
      (dimension_of_basis R F (quotient R M A a) C (d.0 ++ e.0)
      (joined_basis d.0 e.0 (basis_of_dimension R F (quotient R M B b) C m d) (basis_of_dimension R F (quotient R M A a) B n e)))

-- A basis is carried along an embedding.
module _ (R : CommRing) (M N : Module R) (f : M.carrier → N.carrier) (e : IsEmbedding M.ops N.ops f) where
  embed_origin : N.◌≋◌ (f M.origin) N.origin
  embed_origin = N.trans (e.resp _ _ (M.symm (Modules.zero_scale R M M.origin))) (N.trans (e.scale R.𝟘 M.origin) (Modules.zero_scale R N (f M.origin)))

  embed_combination : (cs : List R.carrier) (us : List M.carrier) → N.◌≋◌ (f (combination M.ops cs us)) (combination N.ops cs (map f us))
  unfolding combine
  embed_combination [] us = embed_origin
  embed_combination (c ∷ cs) [] = embed_origin
  embed_combination (c ∷ cs) (u ∷ us) = N.trans (e.add (M.◌·◌ c u) (combination M.ops cs us)) (N.add_cong (e.scale c u) (embed_combination cs us))

  -- to the space Q that f makes of the space P
  pub basis_carried : (P : M.carrier → Type 0) (Q : N.carrier → Type 0) → ((x : M.carrier) → P x → Q (f x)) → ((y : N.carrier) → Q y → (x : M.carrier) × P x × N.◌≋◌ y (f x))
      → (us : List M.carrier) → IsBasis R.ops M.ops P us → IsBasis R.ops N.ops Q (map f us)
  basis_carried P Q onto from us b = (
    All-map Q f us (All-weaker P (λ x. Q (f x)) onto us b.0),
    (λ y h. let x = from y h in let s = b.1 x.0 x.1 in (s.0, simp length-map s.1, N.trans x.2 (N.trans (e.resp x.0 (combination M.ops s.0 us) s.2) (embed_combination s.0 us)))),
    (λ cs l h. b.2 cs (simp length-map at l) (e.injective _ _ (N.trans (embed_combination cs us) (N.trans h (N.symm embed_origin))))),
  )
