-- Sums of products of a point and a ring of fractions, by numerators over one power of d.
use Rattle.std.proofs.Common.{◌≡◌, ℕ, zero, suc, ◌+◌, ◌<◌, List, [], ◌∷◌, All, refl, sym, ap, subst, arith}
use Rattle.std.specs.List.{Contains}
use Rattle.std.proofs.lemmas.List.Elements.{All-nil, All-cons, All-head, All-tail, All-contains, All-weaker, All-contains_itself}
use Rattle.comm_ring.specs.Ring.{CommRing}
use Rattle.comm_ring.specs.Ideals.{IsIdeal}
use Rattle.comm_ring.proofs.Ideals as IdealLaws
use Rattle.polys.specs.declared.term.Term.{Term}
use Rattle.polys.specs.Terms.{IsPoly, one, add, mul, multiple}
use Rattle.polys.specs.Ideal.{InIdeal, number_combination}
use Rattle.polys.specs.Curve.{CurveData}
use Rattle.polys.proofs.Affine.{poly_none, poly_add, poly_multiple, poly_constant, constant, mul_constant, sevens_of, positive}
use Rattle.polys.proofs.Units.{mul_one}
use Rattle.ideal_laws.proofs.Ideals.{in_none, in_sub, in_generator, in_poly}
use Rattle.ideal_laws.proofs.Members.{lift}
use Rattle.curve_model.specs.Fraction.{Fraction, IsFraction, AreEqual, InA, denominator_power, over, sum_of, product_of}
use Rattle.curve_model.specs.Closure.{InModule}
use Rattle.curve_model.specs.Laws.{IsFinite, ArePolys}
use Rattle.curve_model.specs.OneExponent.{InPower}
use Rattle.curve_model.specs.Rings.{IsFractionRing, IsProduct, no_product, one_more}
use Rattle.curve_laws.proofs.Base.{high, Ring, member, equal_down}
use Rattle.curve_laws.proofs.Members.{ideal_from}
use Rattle.curve_laws.proofs.Chains.{flip}
use Rattle.curve_laws.proofs.Facts.{same_member}
use Rattle.curve_laws.proofs.StatedLaws.{frac, sum_poly, product_poly, sum-frac, product-frac, power_poly}
use Rattle.curve_laws.proofs.DescentLaws.{Frs, module_up}
use Rattle.chain_laws.proofs.OneExponent.{eq_refl, eq_sym, eq_trans, one_sum, one_equal_down, one_next, numbers_poly}
use Rattle.chain_laws.proofs.ChainLaws.{one_poly}
use Rattle.quotient_laws.specs.ProductRows.{HoldsCurve}
use Rattle.quotient_laws.proofs.FractionQuotients.{N, Up, products, product_up, product_down}

module _ (A : CurveData) (c : IsFinite A) (P : List (List Term)) (p : ArePolys A P) (K : ℕ) (L : List (List Term)) (l : ArePolys A L)
    (r : IsFractionRing A (InModule A K L)) (holds : (f : Fraction) → IsFraction A f → InA A f → InModule A K L f) where
  abbrev B : Fraction → Type 0
  B = InModule A K L

  abbrev F : CommRing
  F = Frs A c

  pos : 0 < A.prime
  pos = positive A.prime (high A c.curve)

  abbrev Good : List Term → Type 0
  Good f = IsPoly A.prime A.variables f

  -- what equals a sum of products is one
  pub respects : (f g : Fraction) → IsFraction A f → IsFraction A g → AreEqual A f g → IsProduct A P B f → IsProduct A P B g
  respects f g hf hg e (no_product _ h z) = no_product g hg (eq_trans A c g f (over [] 0) hg hf (poly_none A.prime A.variables) (eq_sym A c f g hf hg e) z)
  respects f g hf hg e (one_more _ b y q h hb hy cq bb s z) =
      one_more g b y q hg hb hy cq bb s (eq_trans A c g f (sum_of A (product_of A (over q 0) b) y) hg hf
      (sum_poly A c (product_of A (over q 0) b) y (product_poly A c (over q 0) b (All-contains Good P q p cq) hb) hy) (eq_sym A c f g hf hg e) z)

  -- a fraction is its sum with 0
  plus_none : (f : Fraction) (h : IsFraction A f) → AreEqual A f (sum_of A f (over [] 0))
  plus_none f h =
      let z : Good [] = poly_none A.prime A.variables in
      equal_down A c.curve f (sum_of A f (over [] 0)) h (sum_poly A c f (over [] 0) h z)
      (subst (λ x. F.◌≈◌ (frac A c f h) x) (sum-frac A c f (over [] 0) h z)
      (subst (λ x. F.◌≈◌ (frac A c f h) (F.◌⊕◌ (frac A c f h) x)) (ap (λ x. (x, 0)) (same_member (F.𝟘).0 (member A c.curve [] z) refl))
      (flip F (F.◌⊕◌ (frac A c f h) F.𝟘) (frac A c f h) (F.add_zero (frac A c f h)))))

  -- sums of products over d^k, by numerators
  module _ (k : ℕ) where
    abbrev pub Num : List Term → Type 0
    Num b = IsProduct A P B (over b k)

    pub none_in : Num []
    none_in = respects (over [] 0) (over [] k) (poly_none A.prime A.variables) (poly_none A.prime A.variables) (in_none A.prime A.variables A.ideal)
        (no_product (over [] 0) (poly_none A.prime A.variables) (eq_refl A c (over [] 0) (poly_none A.prime A.variables)))

    pub sum_in : (a b : List Term) → Good a → Good b → Num a → Num b → Num (add A.prime a b)
    sum_in a b ha hb x y =
        let s = sum_of A (over a k) (over b k) in
        let hs = sum_poly A c (over a k) (over b k) ha hb in
        respects (sum_of A (over a k) (over b k)) (over (add A.prime a b) k) hs (poly_add A.prime A.variables a b pos ha hb) (one_sum A c k a b ha hb)
        (product_down A c P p K L l r holds (frac A c s hs)
        (subst (N A c P p K L l r holds) (sum-frac A c (over a k) (over b k) ha hb)
        ((products A c P p K L l r holds).add (frac A c (over a k) ha) (frac A c (over b k) hb) (product_up A c P p K L l r holds (over a k) ha x) (product_up A c P p K L l r holds (over b k) hb y))))

    pub times_in : (q b : List Term) → Good q → Good b → Num b → Num (mul A.prime q b)
    times_in q b hq hb x =
        let u = frac A c (over q 0) hq in
        let f = product_of A (over q 0) (over b k) in
        let hf = product_poly A c (over q 0) (over b k) hq hb in
        let e : 0 + k ≡ k = omega arith in
        subst (λ n. IsProduct A P B (over (mul A.prime q b) n)) e
        (product_down A c P p K L l r holds (frac A c f hf)
        (subst (N A c P p K L l r holds) (product-frac A c (over q 0) (over b k) hq hb)
        ((products A c P p K L l r holds).mul u (frac A c (over b k) hb) (whole_up q hq) (product_up A c P p K L l r holds (over b k) hb x))))
      where
        whole_up : (q : List Term) (hq : Good q) → Up A c P p K L l r holds (frac A c (over q 0) hq)
        whole_up q hq = module_up A c K L l (frac A c (over q 0) hq) (holds (over q 0) hq (whole q hq))
          where
            whole : (q : List Term) → Good q → InA A (over q 0)
            whole q hq = (q, hq, eq_refl A c (over q 0) hq)

    pub multiple_in : (e : ℕ) (b : List Term) → Good b → Num b → Num (multiple A.prime e b)
    multiple_in e b hb x = subst Num (mul_constant A.prime e b (sevens_of A.prime A.variables b hb)) (times_in (constant A.prime e) b (poly_constant A.prime A.variables e pos) hb x)

    pub product_in : (q v : List Term) → Contains P q → Good v → B (over v k) → Num (mul A.prime q v)
    product_in q v cq hv b =
        let hq : Good q = All-contains Good P q p cq in
        let f = product_of A (over q 0) (over v k) in
        let hf = product_poly A c (over q 0) (over v k) hq hv in
        let e : 0 + k ≡ k = omega arith in
        subst (λ n. IsProduct A P B (over (mul A.prime q v) n)) e
        (one_more f (over v k) (over [] 0) q hf hv (poly_none A.prime A.variables) cq b
        (no_product (over [] 0) (poly_none A.prime A.variables) (eq_refl A c (over [] 0) (poly_none A.prime A.variables))) (plus_none f hf))

    pub number_in : (cs : List ℕ) (us : List (List Term)) → ArePolys A us → All Num us → Num (number_combination A.prime cs us)
    number_in [] us h x = none_in
    number_in (e ∷ cs) [] h x = none_in
    number_in (e ∷ cs) (u ∷ us) h x =
        let hu = All-head Good u us h in
        let hs = All-tail Good u us h in
        sum_in (multiple A.prime e u) (number_combination A.prime cs us) (poly_multiple A.prime A.variables e u pos hu) (numbers_poly A c k cs us hs)
        (multiple_in e u hu (All-head Num u us x)) (number_in cs us hs (All-tail Num u us x))

    num_ideal : IsIdeal (Ring A c.curve).ops (λ x. Num x.terms)
    num_ideal = record {
      resp = λ x y e h. subst Num e h;
      none = none_in;
      add = λ x y h g. sum_in x.terms y.terms x.is_poly y.is_poly h g;
      scale = λ q x h. times_in q.terms x.terms q.is_poly x.is_poly h;
    }

    all_lifted : (fs : List (List Term)) (h : ArePolys A fs) → All Num fs → All (λ x. Num x.terms) (lift A.prime A.variables fs h)
    unfolding lift
    all_lifted [] h x = All-nil _
    all_lifted (f ∷ fs) h x = All-cons (λ x. Num x.terms) (member A c.curve f (All-head Good f fs h)) (lift A.prime A.variables fs (All-tail Good f fs h)) (All-head Num f fs x)
        (all_lifted fs (All-tail Good f fs h) (All-tail Num f fs x))

    -- an ideal whose generators are numerators of sums of products
    pub ideal_in : (gs : List (List Term)) → ArePolys A gs → All Num gs → (f : List Term) → InIdeal A.prime A.variables gs f → Num f
    ideal_in gs h x f w =
        let hf : Good f = in_poly A.prime A.variables gs f pos h w in
        IdealLaws.ideal_least (Ring A c.curve) (λ x. Num x.terms) num_ideal (lift A.prime A.variables gs h) (all_lifted gs h x) (member A c.curve f hf)
        (ideal_from A.prime A.variables (high A c.curve) gs h (member A c.curve f hf) w)

  module _ (w : HoldsCurve A P) where
    point_in : (q : List Term) → Contains P q → Num 0 q
    point_in q cq =
        let hq : Good q = All-contains Good P q p cq in
        subst (Num 0) (mul_one A.prime q hq.canonical (sevens_of A.prime A.variables q hq)) (product_in 0 q one cq (one_poly A c) r.one)

    denominator_in : Num 0 A.denominator
    denominator_in = ideal_in 0 P p (All-weaker (Contains P) (Num 0) point_in P (All-contains_itself P)) A.denominator w.denominator

    raised : (k : ℕ) → AreEqual A (over A.denominator 0) (over (denominator_power A (suc k)) k)
    raised zero = subst (λ x. AreEqual A (over A.denominator 0) (over x 0)) (sym (mul_one A.prime A.denominator c.curve.denominator.canonical (sevens_of A.prime A.variables A.denominator c.curve.denominator)))
        (eq_refl A c (over A.denominator 0) c.curve.denominator)
    raised (suc k) = eq_trans A c (over A.denominator 0) (over (denominator_power A (suc k)) k) (over (denominator_power A (suc (suc k))) (suc k)) c.curve.denominator (power_poly A c (suc k)) (power_poly A c (suc (suc k))) (raised k)
        (one_next A c k (denominator_power A (suc k)) (power_poly A c (suc k)))

    -- what is 0 modulo I and d^(k+1) is the numerator of a sum of products over d^k
    pub power_in : (k : ℕ) (b : List Term) → InPower A (suc k) b → Num k b
    power_in k b h = ideal_in k (denominator_power A (suc k) ∷ A.ideal) (All-cons Good (denominator_power A (suc k)) A.ideal (power_poly A c (suc k)) c.curve.ideal)
        (All-cons (Num k) (denominator_power A (suc k)) A.ideal
        (respects (over A.denominator 0) (over (denominator_power A (suc k)) k) c.curve.denominator (power_poly A c (suc k)) (raised k) denominator_in)
        (All-weaker (Contains A.ideal) (Num k) member_in A.ideal (All-contains_itself A.ideal))) b h
      where
        member_in : (i : List Term) → Contains A.ideal i → Num k i
        member_in i ci =
            let hi : Good i = All-contains Good A.ideal i c.curve.ideal ci in
            respects (over [] k) (over i k) (poly_none A.prime A.variables) hi
            (one_equal_down A c k [] i (poly_none A.prime A.variables) hi (in_sub A.prime A.variables A.ideal [] i pos hi (in_none A.prime A.variables A.ideal) (in_generator A.prime A.variables A.ideal i (high A c.curve) c.curve.ideal ci)))
            (none_in k)
