-- What takes the generators of a module into it takes the module into itself.
use Rattle.std.proofs.Common.{◌≡◌, ℕ, suc, ◌+◌, ◌<◌, List, [], ◌∷◌, All, refl, sym, ap, ◌∙◌, subst}
use Rattle.std.specs.List.{Contains}
use Rattle.std.proofs.lemmas.List.Elements.{All-nil, All-cons, All-head, All-tail, All-weaker, All-contains, All-contains_itself}
use Rattle.comm_ring.specs.Ring.{CommRing, pow}
use Rattle.comm_ring.specs.Modules.{own_module, IsSubmodule}
use Rattle.comm_ring.proofs.Ideals as IdealLaws
use Rattle.comm_ring.proofs.Derived.{pow-add}
use Rattle.comm_ring.proofs.Quote.{ring, quote}
use Rattle.polys.specs.declared.term.Term.{Term}
use Rattle.polys.specs.Terms.{IsPoly, add, mul}
use Rattle.polys.specs.Ideal.{InIdeal}
use Rattle.polys.specs.Curve.{CurveData}
use Rattle.polys.proofs.Affine.{poly_none, poly_add, poly_mul, positive}
use Rattle.ideal_laws.proofs.Ideals.{in_none, in_add, in_mul, in_poly, in_generator}
use Rattle.polys.proofs.Sums.{mul-add, mul_none}
use Rattle.curve_model.specs.Fraction.{Fraction, IsFraction, AreEqual, denominator_power, over, product_of, sum_of}
use Rattle.curve_model.specs.Closure.{InModule}
use Rattle.curve_model.specs.Laws.{IsFinite, ArePolys}
use Rattle.ideal_laws.proofs.Members.{lift}
use Rattle.curve_laws.proofs.Members.{ideal_from}
use Rattle.curve_laws.proofs.Base.{high, Ring, Q, Curve, d, member, equal_up, equal_down, of_terms, pow_d}
use Rattle.curve_laws.proofs.Chains.{chain, mul_both}
use Rattle.curve_laws.proofs.Regulars.{regular_curve}
use Rattle.curve_laws.proofs.StatedLaws.{product_poly, sum_poly, power_poly}
use Rattle.chain_laws.proofs.OneExponent.{eq_refl, eq_sym, eq_trans, eq_sum, eq_product, one_sum}
use Rattle.fraction_laws.proofs.FractionRing.{cancel_two}
use Rattle.over_laws.specs.Over.{TakesIntoItself}
use Rattle.over_laws.specs.Endo.{TakesGenerators, GeneratorsDecideEndomorphisms, IsSumOfMultiples, no_multiple, one_multiple, GeneratorsOverRingDecide}
use Rattle.curve_laws.proofs.StatedLaws.{frac, sum-frac, product-frac}
use Rattle.curve_laws.proofs.SplitLaws.{Frac}
use Rattle.curve_laws.proofs.DescentLaws.{Frs}

module _ (C : CommRing) where
  open C use {ops, carrier, ◌≈◌, ◌⊕◌, ◌⊗◌, neg, 𝟘, 𝟙}

  infix 40 ◌≈◌
  infixl 60 ◌⊕◌
  infixl 70 ◌⊗◌
  nothing : (x y : carrier) → 𝟘 ⊗ x ≈ 𝟘 ⊗ y
  nothing x y = ring C (x ∷ y ∷ []) (search quote depth 20) tt

  scaled : (q y z u w : carrier) → y ⊗ u ≈ z ⊗ w → (q ⊗ y) ⊗ u ≈ (q ⊗ z) ⊗ w
  scaled q y z u w e = C.trans (C.mul_assoc q y u) (C.trans (C.mul_cong (C.rfl q) e) (C.symm (C.mul_assoc q z w)))

  spread : (h b j g : carrier) → h ⊗ ((b ⊗ j) ⊕ g) ≈ (b ⊗ (h ⊗ j)) ⊕ (h ⊗ g)
  spread h b j g = ring C (h ∷ b ∷ j ∷ g ∷ []) (search quote depth 20) tt

  exchanged : (b q w : carrier) → q ⊗ (b ⊗ w) ≈ b ⊗ (q ⊗ w)
  exchanged b q w = ring C (b ∷ q ∷ w ∷ []) (search quote depth 20) tt

  cancelled : (e : carrier) (n k : ℕ) → ((x y : carrier) → pow ops e k ⊗ x ≈ pow ops e k ⊗ y → x ≈ y) → (h z t : carrier) → (h ⊗ t) ⊗ pow ops e k ≈ z ⊗ pow ops e (n + k) → h ⊗ t ≈ z ⊗ pow ops e n
  cancelled e n k cancel h z t s = cancel (h ⊗ t) (z ⊗ pow ops e n)
      (C.trans (C.mul_comm (pow ops e k) (h ⊗ t)) (C.trans s (C.trans (C.mul_cong (C.rfl z) (pow-add C e n k)) (over (pow ops e n) (pow ops e k)))))
    where
      over : (y w : carrier) → z ⊗ (y ⊗ w) ≈ w ⊗ (z ⊗ y)
      over y w = ring C (z ∷ y ∷ w ∷ []) (search quote depth 20) tt

module _ (A : CurveData) (c : IsFinite A) (e : ℕ) (H : List (List Term)) (l : ArePolys A H) where
  pos : 0 < A.prime
  pos = positive A.prime (high A c.curve)

  abbrev P : List Term → Type 0
  P f = IsPoly A.prime A.variables f

  abbrev J : Fraction → Type 0
  J = InModule A e H

  j_poly : (f : Fraction) → (i : J f) → P i.0
  j_poly f i = in_poly A.prime A.variables H i.0 pos l i.1

  respects : (f g : Fraction) → IsFraction A f → IsFraction A g → AreEqual A f g → J f → J g
  respects f g hf hg s i = (i.0, i.1, eq_trans A c g f (over i.0 e) hg hf (j_poly f i) (eq_sym A c f g hf hg s) i.2)

  module _ (b : List Term) (hb : P b) (n : ℕ) where
    abbrev N : List Term → Type 0
    N w = J (over (mul A.prime b w) n)

    product : (w : List Term) → P w → P (mul A.prime b w)
    product w hw = poly_mul A.prime A.variables b w pos hb hw

    none : N []
    none = subst (λ z. J (over z n)) (sym (mul_none A.prime b)) (
      [],
      in_none A.prime A.variables H,
      equal_down A c.curve (over [] n) (over [] e) (poly_none A.prime A.variables) (poly_none A.prime A.variables)
          (nothing (Curve A c.curve) (pow (Q A c.curve) (d A c.curve) e) (pow (Q A c.curve) (d A c.curve) n)),
    )

    sum : (w v : List Term) → P w → P v → N w → N v → N (add A.prime w v)
    sum w v hw hv i k =
        let x = mul A.prime b w in
        let y = mul A.prime b v in
        let s = add A.prime i.0 k.0 in
        let hi = j_poly (over x n) i in
        let hk = j_poly (over y n) k in
        let hs = poly_add A.prime A.variables i.0 k.0 pos hi hk in
        let ht = poly_add A.prime A.variables x y pos (product w hw) (product v hv) in
        subst (λ z. J (over z n)) (sym (mul-add A.prime b w v)) (
          add A.prime i.0 k.0,
          in_add A.prime A.variables H i.0 k.0 pos i.1 k.1,
          eq_trans A c (over (add A.prime x y) n) (sum_of A (over x n) (over y n)) (over s e) ht (sum_poly A c (over x n) (over y n) (product w hw) (product v hv)) hs
              (eq_sym A c (sum_of A (over x n) (over y n)) (over (add A.prime x y) n) (sum_poly A c (over x n) (over y n) (product w hw) (product v hv)) ht (one_sum A c n x y (product w hw) (product v hv)))
              (eq_trans A c (sum_of A (over x n) (over y n)) (sum_of A (over i.0 e) (over k.0 e)) (over s e) (sum_poly A c (over x n) (over y n) (product w hw) (product v hv)) (sum_poly A c (over i.0 e) (over k.0 e) hi hk) hs
              (eq_sum A c (over x n) (over y n) (over i.0 e) (over k.0 e) (product w hw) (product v hv) hi hk i.2 k.2)
              (one_sum A c e i.0 k.0 hi hk)),
        )

    scale : (q w : List Term) → P q → P w → N w → N (mul A.prime q w)
    scale q w hq hw i =
        let y = mul A.prime b w in
        let hi = j_poly (over (mul A.prime b w) n) i in
        let mq = member A c.curve q hq in
        let my = member A c.curve y (product w hw) in
        let mz = member A c.curve i.0 hi in
        let hqy = poly_mul A.prime A.variables q y pos hq (product w hw) in
        let hqz = poly_mul A.prime A.variables q i.0 pos hq hi in
        subst (λ z. J (over z n)) (exchanged (Ring A c.curve) (member A c.curve b hb) mq (member A c.curve w hw)) (
          mul A.prime q i.0,
          in_mul A.prime A.variables H q i.0 pos hq i.1,
          equal_down A c.curve (over (mul A.prime q y) n) (over (mul A.prime q i.0) e) hqy hqz
              (scaled (Curve A c.curve) mq my mz (pow (Q A c.curve) (d A c.curve) e) (pow (Q A c.curve) (d A c.curve) n) (equal_up A c.curve (over y n) (over i.0 e) (product w hw) hi i.2)),
        )

    ideal : IsSubmodule (own_module (Ring A c.curve).ops) (λ x. N x.terms)
    ideal = record {
      resp = λ x y s i. subst N s i;
      none = none;
      add = λ x y i k. sum x.terms y.terms x.is_poly y.is_poly i k;
      scale = λ q x i. scale q.terms x.terms q.is_poly x.is_poly i;
    }

    lifted : (gs : List (List Term)) (a : ArePolys A gs) → All N gs → All (λ x. N x.terms) (lift A.prime A.variables gs a)
    unfolding lift
    lifted [] a h = All-nil (λ x. N x.terms)
    lifted (g ∷ gs) a h = All-cons (λ x. N x.terms) (member A c.curve g (All-head P g gs a)) (lift A.prime A.variables gs (All-tail P g gs a)) (All-head N g gs h) (lifted gs (All-tail P g gs a) (All-tail N g gs h))

    all_of : All N H → (w : List Term) → P w → InIdeal A.prime A.variables H w → N w
    all_of h w hw i = IdealLaws.ideal_least (Ring A c.curve) (λ x. N x.terms) ideal (lift A.prime A.variables H l) (lifted H l h) (member A c.curve w hw) (ideal_from A.prime A.variables (high A c.curve) H l (member A c.curve w hw) i)

  down : (h : Fraction) → IsFraction A h → TakesGenerators A e H h → TakesIntoItself A J h
  down h hh t f hf i =
      let hw = j_poly f i in
      let hb = t.poly in
      respects (product_of A (over t.numerator (suc e)) (over i.0 e)) (product_of A h f) (product_poly A c (over t.numerator (suc e)) (over i.0 e) hb hw) (product_poly A c h f hh hf)
      (eq_product A c (over t.numerator (suc e)) (over i.0 e) h f hb hw hh hf (eq_sym A c h (over t.numerator (suc e)) hh hb t.equal) (eq_sym A c f (over i.0 e) hf hw i.2))
      (all_of t.numerator hb (suc e + e) t.takes i.0 hw i.1)

  module _ (power : InIdeal A.prime A.variables H (denominator_power A (suc e))) where
    up : (h : Fraction) → IsFraction A h → TakesIntoItself A J h → TakesGenerators A e H h
    up h hh t =
        let u : Fraction = over (denominator_power A (suc e)) e in
        let hu : IsFraction A u = power_poly A c (suc e) in
        let i = t u hu (denominator_power A (suc e), power, eq_refl A c u hu) in
        let hz = j_poly (product_of A h u) i in
        let s = equal_up A c.curve (product_of A h u) (over i.0 e) (product_poly A c h u hh hu) hz i.2 in
        let mh = member A c.curve h.numerator hh in
        let mu = member A c.curve (denominator_power A (suc e)) hu in
        let mz = member A c.curve i.0 hz in
        let mp = member A c.curve (mul A.prime h.numerator (denominator_power A (suc e))) (product_poly A c h u hh hu) in
        let D = pow (Q A c.curve) (d A c.curve) in
        let same : (Curve A c.curve).◌≈◌ ((Q A c.curve).◌⊗◌ mh mu) mp = of_terms A c.curve ((Q A c.curve).◌⊗◌ mh mu) mp refl in
        let r = cancelled (Curve A c.curve) (d A c.curve) h.exponent e (cancel_two (Curve A c.curve) (d A c.curve) (regular_curve A c.curve) e) mh mz mu
        (chain (Curve A c.curve) ((Q A c.curve).◌⊗◌ ((Q A c.curve).◌⊗◌ mh mu) (pow (Q A c.curve) (d A c.curve) e)) ((Q A c.curve).◌⊗◌ mp (pow (Q A c.curve) (d A c.curve) e)) ((Q A c.curve).◌⊗◌ mz (pow (Q A c.curve) (d A c.curve) (h.exponent + e)))
        (mul_both (Curve A c.curve) ((Q A c.curve).◌⊗◌ mh mu) mp (pow (Q A c.curve) (d A c.curve) e) (pow (Q A c.curve) (d A c.curve) e) same ((Curve A c.curve).rfl (pow (Q A c.curve) (d A c.curve) e))) s) in
        let turn : (Curve A c.curve).◌≈◌ ((Q A c.curve).◌⊗◌ mh (pow (Q A c.curve) (d A c.curve) (suc e))) ((Q A c.curve).◌⊗◌ mh mu) =
        of_terms A c.curve ((Q A c.curve).◌⊗◌ mh (pow (Q A c.curve) (d A c.curve) (suc e))) ((Q A c.curve).◌⊗◌ mh mu) (ap (mul A.prime h.numerator) (pow_d A c.curve (suc e))) in
        let q : AreEqual A h (over i.0 (suc e)) = equal_down A c.curve h (over i.0 (suc e)) hh hz
        (chain (Curve A c.curve) ((Q A c.curve).◌⊗◌ mh (pow (Q A c.curve) (d A c.curve) (suc e))) ((Q A c.curve).◌⊗◌ mh mu) ((Q A c.curve).◌⊗◌ mz (pow (Q A c.curve) (d A c.curve) h.exponent)) turn r) in
        record {
          numerator = i.0;
          poly = hz;
          equal = q;
          takes = All-weaker (Contains H) (λ v. J (over (mul A.prime i.0 v) (suc e + e)))
              (λ v k.
              let hv = All-contains P H v l k in
              respects (product_of A h (over v e)) (product_of A (over i.0 (suc e)) (over v e)) (product_poly A c h (over v e) hh hv) (product_poly A c (over i.0 (suc e)) (over v e) hz hv)
              (eq_product A c h (over v e) (over i.0 (suc e)) (over v e) hh hv hz hv q (eq_refl A c (over v e) hv))
              (t (over v e) hv (v, in_generator A.prime A.variables H v (high A c.curve) l k, eq_refl A c (over v e) hv)))
              H (All-contains_itself H);
        }

pub endo_law : GeneratorsDecideEndomorphisms
endo_law A c e H l power h hh = (up A c e H l power h hh, down A c e H l h hh)

-- ---- generators over a ring of fractions

module _ (A : CurveData) (c : IsFinite A) (h b j g : Fraction) (hh : IsFraction A h) (hb : IsFraction A b) (hj : IsFraction A j) (hg : IsFraction A g) where
  bj : IsFraction A (product_of A b j)
  bj = product_poly A c b j hb hj

  inner : IsFraction A (sum_of A (product_of A b j) g)
  inner = sum_poly A c (product_of A b j) g bj hg

  left_poly : IsFraction A (product_of A h (sum_of A (product_of A b j) g))
  left_poly = product_poly A c h (sum_of A (product_of A b j) g) hh inner

  hj' : IsFraction A (product_of A h j)
  hj' = product_poly A c h j hh hj

  bhj : IsFraction A (product_of A b (product_of A h j))
  bhj = product_poly A c b (product_of A h j) hb hj'

  hg' : IsFraction A (product_of A h g)
  hg' = product_poly A c h g hh hg

  right_poly : IsFraction A (sum_of A (product_of A b (product_of A h j)) (product_of A h g))
  right_poly = sum_poly A c (product_of A b (product_of A h j)) (product_of A h g) bhj hg'

  x : Frac A c
  x = (Frs A c).◌⊗◌ (frac A c h hh) ((Frs A c).◌⊕◌ ((Frs A c).◌⊗◌ (frac A c b hb) (frac A c j hj)) (frac A c g hg))

  y : Frac A c
  y = (Frs A c).◌⊕◌ ((Frs A c).◌⊗◌ (frac A c b hb) ((Frs A c).◌⊗◌ (frac A c h hh) (frac A c j hj))) ((Frs A c).◌⊗◌ (frac A c h hh) (frac A c g hg))

  left_is : x ≡ frac A c (product_of A h (sum_of A (product_of A b j) g)) left_poly
  unfolding x left_poly inner bj
  left_is =
      ap (λ z. (Frs A c).◌⊗◌ (frac A c h hh) z) (ap (λ z. (Frs A c).◌⊕◌ z (frac A c g hg)) (product-frac A c b j hb hj) ∙ sum-frac A c (product_of A b j) g bj hg)
      ∙ product-frac A c h (sum_of A (product_of A b j) g) hh inner

  right_is : y ≡ frac A c (sum_of A (product_of A b (product_of A h j)) (product_of A h g)) right_poly
  unfolding y right_poly bhj hg' hj'
  right_is =
      ap (λ z. (Frs A c).◌⊕◌ z ((Frs A c).◌⊗◌ (frac A c h hh) (frac A c g hg))) (ap (λ z. (Frs A c).◌⊗◌ (frac A c b hb) z) (product-frac A c h j hh hj) ∙ product-frac A c b (product_of A h j) hb hj')
      ∙ ap (λ z. (Frs A c).◌⊕◌ (frac A c (product_of A b (product_of A h j)) bhj) z) (product-frac A c h g hh hg)
      ∙ sum-frac A c (product_of A b (product_of A h j)) (product_of A h g) bhj hg'

  spread_out : AreEqual A (product_of A h (sum_of A (product_of A b j) g)) (sum_of A (product_of A b (product_of A h j)) (product_of A h g))
  unfolding x y
  spread_out = equal_down A c.curve (product_of A h (sum_of A (product_of A b j) g)) (sum_of A (product_of A b (product_of A h j)) (product_of A h g)) left_poly right_poly
      (subst (λ z. (Frs A c).◌≈◌ (frac A c (product_of A h (sum_of A (product_of A b j) g)) left_poly) z) right_is
      (subst (λ z. (Frs A c).◌≈◌ z ((Frs A c).◌⊕◌ ((Frs A c).◌⊗◌ (frac A c b hb) ((Frs A c).◌⊗◌ (frac A c h hh) (frac A c j hj))) ((Frs A c).◌⊗◌ (frac A c h hh) (frac A c g hg)))) left_is
      (spread (Frs A c) (frac A c h hh) (frac A c b hb) (frac A c j hj) (frac A c g hg))))

module _ (A : CurveData) (c : IsFinite A) (K : ℕ) (L : List (List Term)) (ll : ArePolys A L) (e : ℕ) (H : List (List Term)) (lh : ArePolys A H)
    (closed : (b f : Fraction) → IsFraction A b → IsFraction A f → InModule A K L b → InModule A e H f → InModule A e H (product_of A b f)) where
  abbrev M : Fraction → Type 0
  M = InModule A e H

  above : 0 < A.prime
  above = positive A.prime (high A c.curve)

  m_poly : (f : Fraction) → (i : M f) → IsPoly A.prime A.variables i.0
  m_poly f i = in_poly A.prime A.variables H i.0 above lh i.1

  m_moved : (f g : Fraction) → IsFraction A f → IsFraction A g → AreEqual A f g → M g → M f
  m_moved f g hf hg s i = (i.0, i.1, eq_trans A c f g (over i.0 e) hf hg (m_poly g i) s i.2)

  m_sum : (f g : Fraction) → IsFraction A f → IsFraction A g → M f → M g → M (sum_of A f g)
  m_sum f g hf hg i k =
      let hi = m_poly f i in
      let hk = m_poly g k in
      let s = poly_add A.prime A.variables i.0 k.0 above hi hk in (
        add A.prime i.0 k.0,
        in_add A.prime A.variables H i.0 k.0 above i.1 k.1,
        eq_trans A c (sum_of A f g) (sum_of A (over i.0 e) (over k.0 e)) (over (add A.prime i.0 k.0) e) (sum_poly A c f g hf hg) (sum_poly A c (over i.0 e) (over k.0 e) hi hk) s
            (eq_sum A c f g (over i.0 e) (over k.0 e) hf hg hi hk i.2 k.2) (one_sum A c e i.0 k.0 hi hk),
      )

  m_none : (n : ℕ) → M (over [] n)
  m_none n = (
    [],
    in_none A.prime A.variables H,
    equal_down A c.curve (over [] n) (over [] e) (poly_none A.prime A.variables) (poly_none A.prime A.variables)
        (nothing (Curve A c.curve) (pow (Q A c.curve) (d A c.curve) e) (pow (Q A c.curve) (d A c.curve) n)),
  )

  module _ (js : List Fraction) (hjs : All (IsFraction A) js) (h : Fraction) (hh : IsFraction A h) (t : All (λ j. M (product_of A h j)) js) where
    takes : (f : Fraction) → IsFraction A f → IsSumOfMultiples A (InModule A K L) js f → M (product_of A h f)
    takes _ k (no_multiple f hf s) =
        let z : Fraction = over [] 0 in
        m_moved (product_of A h f) (product_of A h z) (product_poly A c h f hh hf) (product_poly A c h z hh (poly_none A.prime A.variables))
        (eq_product A c h f h z hh hf hh (poly_none A.prime A.variables) (eq_refl A c h hh) s)
        (subst (λ w. M (over w (h.exponent + 0))) (sym (mul_none A.prime h.numerator)) (m_none (h.exponent + 0)))
    takes _ k (one_multiple f b j g hf hb hj hg ib cj r s) =
        let u : Fraction = sum_of A (product_of A b j) g in
        let v : Fraction = sum_of A (product_of A b (product_of A h j)) (product_of A h g) in
        let bhj = product_poly A c b (product_of A h j) hb (product_poly A c h j hh hj) in
        let hg' = product_poly A c h g hh hg in
        let up = sum_poly A c (product_of A b j) g (product_poly A c b j hb hj) hg in
        m_moved (product_of A h f) v (product_poly A c h f hh hf) (sum_poly A c (product_of A b (product_of A h j)) (product_of A h g) bhj hg')
        (eq_trans A c (product_of A h f) (product_of A h u) v (product_poly A c h f hh hf) (product_poly A c h u hh up) (sum_poly A c (product_of A b (product_of A h j)) (product_of A h g) bhj hg')
        (eq_product A c h f h u hh hf hh up (eq_refl A c h hh) s) (spread_out A c h b j g hh hb hj hg))
        (m_sum (product_of A b (product_of A h j)) (product_of A h g) bhj hg'
        (closed b (product_of A h j) hb (product_poly A c h j hh hj) ib (All-contains (λ q. M (product_of A h q)) js j t cj))
        (takes g hg r))

pub over_ring_law : GeneratorsOverRingDecide
over_ring_law A c K L ll e H lh closed js hjs mjs all h hh = (
  (λ t. All-weaker (Contains js) (λ j. InModule A e H (product_of A h j))
      (λ j k. t j (All-contains (IsFraction A) js j hjs k) (All-contains (InModule A e H) js j mjs k)) js (All-contains_itself js)),
  λ t f hf i. takes A c K L ll e H lh closed js hjs h hh t f hf (all f hf i),
)
