-- Fractions over one power of d.
use Rattle.std.proofs.Common.{◌≡◌, ℕ, suc, ◌+◌, ◌-◌, ◌<◌, List, [], ◌∷◌, All, sym, ap₂, ◌∙◌, subst, arith}
use Rattle.std.proofs.lemmas.List.{length-map}
use Rattle.std.proofs.lemmas.List.Elements.{All-nil, All-cons, All-head, All-tail, All-weaker}
use Rattle.comm_ring.specs.Ring.{CommRing, pow}
use Rattle.comm_ring.proofs.Derived.{pow-add}
use Rattle.comm_ring.proofs.Quote.{ring, quote}
use Rattle.polys.specs.declared.term.Term.{Term}
use Rattle.polys.specs.Terms.{IsPoly, add, sub, mul, multiple}
use Rattle.polys.specs.Ideal.{InIdeal, number_combination}
use Rattle.polys.specs.Curve.{CurveData}
use Rattle.polys.proofs.Affine.{poly_none, poly_add, poly_sub, poly_mul, poly_multiple, poly_constant, constant, mul_constant, sevens_of, positive}
use Rattle.ideal_laws.proofs.Ideals.{in_poly}
use Rattle.curve_model.specs.Fraction.{Fraction, IsFraction, AreEqual, EqualsOver, InA, over, sum_of, multiple_of, product_of}
use Rattle.curve_model.specs.Closure.{InModule}
use Rattle.curve_model.specs.Delta as Delta
use Rattle.curve_model.specs.Delta.{AreIndependent}
use Rattle.curve_model.specs.Laws.{IsFinite, ArePolys}
use Rattle.curve_model.specs.Enlarging.{IsBasisModuloA, difference_of}
use Rattle.curve_model.specs.OneExponent.{all_over, InPower, OneExponent, AreIndependentModulo, NumeratorsDecideIndependence, IsNumeratorBasis, NumeratorsAreBasis}
use Rattle.curve_laws.proofs.Chains.{chain, add_both, mul_both, power_none, over_none}
use Rattle.curve_laws.proofs.Base.{high, Ring, Poly, d, Q, Curve, member, same_up, same_down, equal_up, equal_down}
use Rattle.curve_laws.proofs.Locals.{taken_up, taken_down}
use Rattle.curve_laws.proofs.Regulars.{regular_curve, turn_equal}
use Rattle.curve_laws.proofs.StatedLaws.{frac, sum_poly, product_poly, sum-frac, product-frac}
use Rattle.curve_laws.proofs.DeltaLaws.{multiple_poly}
use Rattle.curve_laws.proofs.DescentLaws.{Frs}
use Rattle.chain_laws.proofs.ChainLaws.{whole_ring}
use Rattle.fraction_laws.proofs.FractionRing.{cancel_two}

module _ (C : CommRing) where
  open C use {ops, carrier, ◌≈◌, ◌⊕◌, ◌⊗◌, neg, 𝟘, 𝟙}

  infix 40 ◌≈◌
  infixl 60 ◌⊕◌
  infixl 70 ◌⊗◌
  sum_one : (x a b y : carrier) → y ≈ x ⊗ x → ((a ⊗ x) ⊕ (b ⊗ x)) ⊗ x ≈ (a ⊕ b) ⊗ y
  sum_one x a b y e = C.trans (ring C (x ∷ a ∷ b ∷ []) (search quote depth 20) tt) (C.mul_cong (C.rfl (a ⊕ b)) (C.symm e))

  next : (x d b : carrier) → b ⊗ (d ⊗ x) ≈ (d ⊗ b) ⊗ x
  next x d b = ring C (x ∷ d ∷ b ∷ []) (search quote depth 20) tt

  next_one : (e m : carrier) (K : ℕ) → m ⊗ pow ops e (suc K) ≈ (e ⊗ m) ⊗ pow ops e K
  unfolding pow
  next_one e m K = next (pow ops e K) e m

  swap : (x a : carrier) → x ⊗ a ≈ a ⊗ x
  swap x a = C.mul_comm x a

module _ (A : CurveData) (c : IsFinite A) where
  pos : 0 < A.prime
  pos = positive A.prime (high A c.curve)

  abbrev pub P : List Term → Type 0
  P f = IsPoly A.prime A.variables f

  -- ---- equality of fractions is an equivalence that sums and multiples keep

  pub eq_refl : (f : Fraction) → IsFraction A f → AreEqual A f f
  eq_refl f h = equal_down A c.curve f f h h ((Curve A c.curve).rfl ((Q A c.curve).◌⊗◌ (member A c.curve f.numerator h) (pow (Q A c.curve) (d A c.curve) f.exponent)))

  pub eq_sym : (f g : Fraction) → IsFraction A f → IsFraction A g → AreEqual A f g → AreEqual A g f
  eq_sym f g a b e = turn_equal A c.curve f g a b e

  pub eq_trans : (f g h : Fraction) → IsFraction A f → IsFraction A g → IsFraction A h → AreEqual A f g → AreEqual A g h → AreEqual A f h
  eq_trans f g h a b k e s =
      let x = frac A c f a in
      let y = frac A c g b in
      let z = frac A c h k in
      let u : (Frs A c).◌≈◌ (frac A c f a) (frac A c g b) = equal_up A c.curve f g a b e in
      let v : (Frs A c).◌≈◌ (frac A c g b) (frac A c h k) = equal_up A c.curve g h b k s in
      equal_down A c.curve f h a k (chain (Frs A c) (frac A c f a) (frac A c g b) (frac A c h k) u v)

  pub eq_sum : (f g f' g' : Fraction) → IsFraction A f → IsFraction A g → IsFraction A f' → IsFraction A g' → AreEqual A f f' → AreEqual A g g' → AreEqual A (sum_of A f g) (sum_of A f' g')
  eq_sum f g f' g' a b a' b' e s =
      let u : (Frs A c).◌≈◌ (frac A c f a) (frac A c f' a') = equal_up A c.curve f f' a a' e in
      let v : (Frs A c).◌≈◌ (frac A c g b) (frac A c g' b') = equal_up A c.curve g g' b b' s in
      let w : (Frs A c).◌≈◌ ((Frs A c).◌⊕◌ (frac A c f a) (frac A c g b)) ((Frs A c).◌⊕◌ (frac A c f' a') (frac A c g' b')) = add_both (Frs A c) (frac A c f a) (frac A c f' a') (frac A c g b) (frac A c g' b') u v in
      equal_down A c.curve (sum_of A f g) (sum_of A f' g') (sum_poly A c f g a b) (sum_poly A c f' g' a' b')
      (subst (λ z. (Frs A c).◌≈◌ (frac A c (sum_of A f g) (sum_poly A c f g a b)) z) (sum-frac A c f' g' a' b')
      (subst (λ z. (Frs A c).◌≈◌ z ((Frs A c).◌⊕◌ (frac A c f' a') (frac A c g' b'))) (sum-frac A c f g a b) w))

  pub eq_product : (f g f' g' : Fraction) → IsFraction A f → IsFraction A g → IsFraction A f' → IsFraction A g' → AreEqual A f f' → AreEqual A g g' → AreEqual A (product_of A f g) (product_of A f' g')
  eq_product f g f' g' a b a' b' e s =
      let u : (Frs A c).◌≈◌ (frac A c f a) (frac A c f' a') = equal_up A c.curve f f' a a' e in
      let v : (Frs A c).◌≈◌ (frac A c g b) (frac A c g' b') = equal_up A c.curve g g' b b' s in
      let w : (Frs A c).◌≈◌ ((Frs A c).◌⊗◌ (frac A c f a) (frac A c g b)) ((Frs A c).◌⊗◌ (frac A c f' a') (frac A c g' b')) = mul_both (Frs A c) (frac A c f a) (frac A c f' a') (frac A c g b) (frac A c g' b') u v in
      equal_down A c.curve (product_of A f g) (product_of A f' g') (product_poly A c f g a b) (product_poly A c f' g' a' b')
      (subst (λ z. (Frs A c).◌≈◌ (frac A c (product_of A f g) (product_poly A c f g a b)) z) (product-frac A c f' g' a' b')
      (subst (λ z. (Frs A c).◌≈◌ z ((Frs A c).◌⊗◌ (frac A c f' a') (frac A c g' b'))) (product-frac A c f g a b) w))

  times_is : (e : ℕ) (g : Fraction) → IsFraction A g → product_of A (over (constant A.prime e) 0) g ≡ multiple_of A e g
  times_is e g a = ap₂ (λ z k. over z k) (mul_constant A.prime e g.numerator (sevens_of A.prime A.variables g.numerator a)) (let k : 0 + g.exponent ≡ g.exponent = omega arith in k)

  pub eq_multiple : (e : ℕ) (g h : Fraction) → IsFraction A g → IsFraction A h → AreEqual A g h → AreEqual A (multiple_of A e g) (multiple_of A e h)
  eq_multiple e g h a b s =
      let k : Fraction = over (constant A.prime e) 0 in
      let kp : IsFraction A k = poly_constant A.prime A.variables e pos in
      subst (λ z. AreEqual A z (multiple_of A e h)) (times_is e g a)
      (subst (λ z. AreEqual A (product_of A k g) z) (times_is e h b) (eq_product k g k h kp a kp b (eq_refl k kp) s))

  -- ---- numerators over one power

  module _ (K : ℕ) where
    abbrev x : Poly A c.curve
    x = pow (Q A c.curve) (d A c.curve) K

    pub one_equal_up : (a b : List Term) → P a → P b → AreEqual A (over a K) (over b K) → InIdeal A.prime A.variables A.ideal (sub A.prime a b)
    one_equal_up a b ha hb e =
        let m = member A c.curve a ha in
        let n = member A c.curve b hb in
        let y = pow (Q A c.curve) (d A c.curve) K in
        let u : (Curve A c.curve).◌≈◌ ((Curve A c.curve).◌⊗◌ (member A c.curve a ha) (pow (Q A c.curve) (d A c.curve) K)) ((Curve A c.curve).◌⊗◌ (member A c.curve b hb) (pow (Q A c.curve) (d A c.curve) K)) = equal_up A c.curve (over a K) (over b K) ha hb e in
        same_down A c.curve m n
        (cancel_two (Curve A c.curve) (d A c.curve) (regular_curve A c.curve) K m n
        (chain (Curve A c.curve) ((Q A c.curve).◌⊗◌ y m) ((Q A c.curve).◌⊗◌ m y) ((Q A c.curve).◌⊗◌ y n) (swap (Curve A c.curve) y m)
        (chain (Curve A c.curve) ((Q A c.curve).◌⊗◌ m y) ((Q A c.curve).◌⊗◌ n y) ((Q A c.curve).◌⊗◌ y n) u (swap (Curve A c.curve) n y))))

    pub one_equal_down : (a b : List Term) → P a → P b → InIdeal A.prime A.variables A.ideal (sub A.prime a b) → AreEqual A (over a K) (over b K)
    one_equal_down a b ha hb e =
        let m = member A c.curve a ha in
        let n = member A c.curve b hb in
        equal_down A c.curve (over a K) (over b K) ha hb (mul_both (Curve A c.curve) m n (pow (Q A c.curve) (d A c.curve) K) (pow (Q A c.curve) (d A c.curve) K) (same_up A c.curve m n e) ((Curve A c.curve).rfl (pow (Q A c.curve) (d A c.curve) K)))

    pub one_sum : (a b : List Term) → P a → P b → AreEqual A (sum_of A (over a K) (over b K)) (over (add A.prime a b) K)
    one_sum a b ha hb =
        let m = member A c.curve a ha in
        let n = member A c.curve b hb in
        let s = poly_add A.prime A.variables a b pos ha hb in
        let y = pow (Q A c.curve) (d A c.curve) K in
        equal_down A c.curve (sum_of A (over a K) (over b K)) (over (add A.prime a b) K) (sum_poly A c (over a K) (over b K) ha hb) (poly_add A.prime A.variables a b pos ha hb)
        (subst (λ z. (Frs A c).◌≈◌ z (frac A c (over (add A.prime a b) K) (poly_add A.prime A.variables a b pos ha hb))) (sum-frac A c (over a K) (over b K) ha hb)
        (sum_one (Curve A c.curve) (pow (Q A c.curve) (d A c.curve) K) m n (pow (Q A c.curve) (d A c.curve) (K + K)) (pow-add (Curve A c.curve) (d A c.curve) K K)))

    pub numbers_poly : (cs : List ℕ) (us : List (List Term)) → ArePolys A us → P (number_combination A.prime cs us)
    numbers_poly [] us h = poly_none A.prime A.variables
    numbers_poly (e ∷ cs) [] h = poly_none A.prime A.variables
    numbers_poly (e ∷ cs) (u ∷ us) h = poly_add A.prime A.variables (multiple A.prime e u) (number_combination A.prime cs us) pos
        (poly_multiple A.prime A.variables e u pos (All-head P u us h)) (numbers_poly cs us (All-tail P u us h))

    pub fractions_over : (us : List (List Term)) → ArePolys A us → All (IsFraction A) (all_over K us)
    fractions_over [] h = All-nil (IsFraction A)
    fractions_over (u ∷ us) h = All-cons (IsFraction A) (over u K) (all_over K us) (All-head P u us h) (fractions_over us (All-tail P u us h))

    pub combined_poly : (cs : List ℕ) (us : List (List Term)) → ArePolys A us → IsFraction A (Delta.combination A cs (all_over K us))
    combined_poly [] us h = poly_none A.prime A.variables
    combined_poly (e ∷ cs) [] h = poly_none A.prime A.variables
    combined_poly (e ∷ cs) (u ∷ us) h = sum_poly A c (multiple_of A e (over u K)) (Delta.combination A cs (all_over K us)) (multiple_poly A c e (over u K) (All-head P u us h)) (combined_poly cs us (All-tail P u us h))

    nothing : AreEqual A (over [] 0) (over [] K)
    nothing =
        let z = (Ring A c.curve).𝟘 in
        equal_down A c.curve (over [] 0) (over [] K) (poly_none A.prime A.variables) (poly_none A.prime A.variables)
        (zero_both (Curve A c.curve) (pow (Q A c.curve) (d A c.curve) K) (pow (Q A c.curve) (d A c.curve) 0) (member A c.curve [] (poly_none A.prime A.variables)) (none_zero (poly_none A.prime A.variables)))
      where
        none_zero : (h : P []) → (Curve A c.curve).◌≈◌ (member A c.curve [] h) (Ring A c.curve).𝟘
        none_zero h = same_up A c.curve (member A c.curve [] h) (Ring A c.curve).𝟘 (same_down A c.curve (Ring A c.curve).𝟘 (Ring A c.curve).𝟘 ((Curve A c.curve).rfl (Ring A c.curve).𝟘))

        zero_both : (C : CommRing) (u v z : C.carrier) → C.◌≈◌ z C.𝟘 → C.◌≈◌ (C.◌⊗◌ z u) (C.◌⊗◌ z v)
        zero_both C u v z e = C.trans (C.mul_cong e (C.rfl u)) (C.trans (ring C (u ∷ v ∷ []) (search quote depth 20) tt) (C.mul_cong (C.symm e) (C.rfl v)))

    pub one_combination : (cs : List ℕ) (us : List (List Term)) → ArePolys A us → AreEqual A (Delta.combination A cs (all_over K us)) (over (number_combination A.prime cs us) K)
    one_combination [] us h = nothing
    one_combination (e ∷ cs) [] h = nothing
    one_combination (e ∷ cs) (u ∷ us) h =
        let hu = All-head P u us h in
        let ht = All-tail P u us h in
        let f : Fraction = multiple_of A e (over u K) in
        let fp : IsFraction A f = multiple_poly A c e (over u K) (All-head P u us h) in
        let g : Fraction = Delta.combination A cs (all_over K us) in
        let gp : IsFraction A g = combined_poly cs us (All-tail P u us h) in
        let v : List Term = number_combination A.prime cs us in
        let vp : P v = numbers_poly cs us (All-tail P u us h) in
        eq_trans (sum_of A f g) (sum_of A f (over v K)) (over (add A.prime (multiple A.prime e u) v) K)
        (sum_poly A c f g fp gp) (sum_poly A c f (over v K) fp vp) (poly_add A.prime A.variables (multiple A.prime e u) v pos fp vp)
        (eq_sum f g f (over v K) fp gp fp vp (eq_refl f fp) (one_combination cs us ht))
        (one_sum (multiple A.prime e u) v fp vp)

    -- ---- in A

    pub whole_up : (b : List Term) → P b → InA A (over b K) → InPower A K b
    whole_up b h w =
        let m = member A c.curve b h in
        let q = member A c.curve w.0 w.1 in
        let y = pow (Q A c.curve) (d A c.curve) K in
        taken_down A c.curve K m (q, power_none (Curve A c.curve) (d A c.curve) m ((Curve A c.curve).◌⊗◌ q y) (equal_up A c.curve (over b K) (over w.0 0) h w.1 w.2))

    pub whole_down : (b : List Term) → P b → InPower A K b → InA A (over b K)
    whole_down b h w =
        let m = member A c.curve b h in
        let t = taken_up A c.curve K m w in
        let y = pow (Q A c.curve) (d A c.curve) K in
        (t.0.terms, t.0.is_poly, equal_down A c.curve (over b K) (over t.0.terms 0) h t.0.is_poly (over_none (Curve A c.curve) (d A c.curve) m ((Curve A c.curve).◌⊗◌ t.0 y) t.1))

    pub one_next : (b : List Term) → P b → AreEqual A (over b K) (over (mul A.prime A.denominator b) (suc K))
    one_next b h =
        let m = member A c.curve b h in
        let hb = poly_mul A.prime A.variables A.denominator b pos c.curve.denominator h in
        equal_down A c.curve (over b K) (over (mul A.prime A.denominator b) (suc K)) h (poly_mul A.prime A.variables A.denominator b pos c.curve.denominator h)
        (next_one (Curve A c.curve) (d A c.curve) m K)

    pub one_raised : (f : Fraction) → IsFraction A f → EqualsOver A K f → EqualsOver A (suc K) f
    one_raised f h w =
        let hb = poly_mul A.prime A.variables A.denominator w.0 pos c.curve.denominator w.1 in
        (mul A.prime A.denominator w.0, hb, eq_trans f (over w.0 K) (over (mul A.prime A.denominator w.0) (suc K)) h w.1 hb w.2 (one_next w.0 w.1))

    -- ---- independence and bases

    in_respects : (f g : Fraction) → IsFraction A f → IsFraction A g → AreEqual A f g → InA A f → InA A g
    in_respects f g a b e w = (whole_ring A c).respects f g a b e w

    pub independent_up : (us : List (List Term)) → ArePolys A us → AreIndependent A (all_over K us) → AreIndependentModulo A K us
    independent_up us h i cs s l w =
        let v : List Term = number_combination A.prime cs us in
        let vp : P v = numbers_poly cs us h in
        let g : Fraction = Delta.combination A cs (all_over K us) in
        let gp : IsFraction A g = combined_poly cs us h in
        i cs s (l ∙ sym (length-map us (λ u. over u K))) (in_respects (over v K) g vp gp (eq_sym g (over v K) gp vp (one_combination cs us h)) (whole_down v vp w))

    pub independent_down : (us : List (List Term)) → ArePolys A us → AreIndependentModulo A K us → AreIndependent A (all_over K us)
    independent_down us h i cs s l w =
        let v : List Term = number_combination A.prime cs us in
        let vp : P v = numbers_poly cs us h in
        let g : Fraction = Delta.combination A cs (all_over K us) in
        let gp : IsFraction A g = combined_poly cs us h in
        i cs s (l ∙ length-map us (λ u. over u K)) (whole_up v vp (in_respects g (over v K) gp vp (one_combination cs us h) w))

    module _ (L us : List (List Term)) (hl : ArePolys A L) (b : IsNumeratorBasis A K L us) where
      polys : ArePolys A us
      polys = All-weaker (InIdeal A.prime A.variables L) P (λ f i. in_poly A.prime A.variables L f pos hl i) us b.members

      members_over : (vs : List (List Term)) → ArePolys A vs → All (InIdeal A.prime A.variables L) vs → All (InModule A K L) (all_over K vs)
      members_over [] h i = All-nil (InModule A K L)
      members_over (v ∷ vs) h i = All-cons (InModule A K L) (over v K) (all_over K vs)
          (v, All-head (InIdeal A.prime A.variables L) v vs i, eq_refl (over v K) (All-head P v vs h))
          (members_over vs (All-tail P v vs h) (All-tail (InIdeal A.prime A.variables L) v vs i))

      pub basis : IsBasisModuloA A (InModule A K L) (all_over K us)
      basis = record {
        fractions = fractions_over us polys;
        members = members_over us polys b.members;
        independent = independent_down us polys b.independent;
        spans = λ f hf w.
            let s = b.spans w.0 w.1 in
            let cs : List ℕ = s.residues in
            let wp : P w.0 = in_poly A.prime A.variables L w.0 pos hl w.1 in
            let v : List Term = number_combination A.prime cs us in
            let vp : P v = numbers_poly cs us polys in
            let g : Fraction = Delta.combination A cs (all_over K us) in
            let gp : IsFraction A g = combined_poly cs us polys in
            let n : Fraction = multiple_of A (A.prime - 1) g in
            let np : IsFraction A n = multiple_poly A c (A.prime - 1) g gp in
            let nv : List Term = multiple A.prime (A.prime - 1) v in
            let nvp : P nv = poly_multiple A.prime A.variables (A.prime - 1) v pos vp in
            let r : List Term = sub A.prime w.0 v in
            let rp : P r = poly_sub A.prime A.variables w.0 v pos wp vp in (
              cs,
              s.below,
              s.as_many ∙ sym (length-map us (λ u. over u K)),
              in_respects (over r K) (difference_of A f g) rp (sum_poly A c f n hf np)
                  (eq_sym (difference_of A f g) (over r K) (sum_poly A c f n hf np) rp
                  (eq_trans (difference_of A f g) (sum_of A (over w.0 K) (over nv K)) (over r K) (sum_poly A c f n hf np) (sum_poly A c (over w.0 K) (over nv K) wp nvp) rp
                  (eq_sum f n (over w.0 K) (over nv K) hf np wp nvp w.2 (eq_multiple (A.prime - 1) g (over v K) gp vp (one_combination cs us polys)))
                  (one_sum w.0 nv wp nvp)))
                  (whole_down r rp s.close),
            );
      }

pub one_exponent_law : OneExponent
one_exponent_law A c = record {
  equal = λ K a b ha hb. (one_equal_up A c K a b ha hb, one_equal_down A c K a b ha hb);
  sum = λ K a b ha hb. one_sum A c K a b ha hb;
  combination = λ K cs us h. one_combination A c K cs us h;
  whole = λ K b h. (whole_up A c K b h, whole_down A c K b h);
  next = λ K b h. one_next A c K b h;
  raised = λ K f h w. one_raised A c K f h w;
}

pub independence_law : NumeratorsDecideIndependence
independence_law A c K us h = (independent_up A c K us h, independent_down A c K us h)

pub basis_law : NumeratorsAreBasis
basis_law A c K L us hl b = basis A c K L us hl b
