-- Descent at polynomials.
use Rattle.std.proofs.Common.{ℕ, ◌*◌, List, [], refl, sym, ap, ◌∙◌, subst}
use Rattle.std.specs.List.{Contains}
use Rattle.std.proofs.lemmas.List.Elements.{All-contains}
use Rattle.comm_ring.specs.Ring.{CommRing, pow}
use Rattle.comm_ring.specs.Modules.{combination, own_module}
use Rattle.comm_ring.specs.Ideals as Ideals
use Rattle.comm_ring.proofs.Modules as Modules
use Rattle.comm_ring.proofs.Ideals as IdealLaws
use Rattle.fraction_laws.specs.Fractions as Fr
use Rattle.point_laws.specs.Laws as PtLaws
use Rattle.fraction_laws.proofs.CurveLaws as CurveLaws
use Rattle.point_laws.proofs.CurvePoints as CurvePoints
use Rattle.fraction_laws.proofs.FractionRing.{fractions}
use Rattle.fraction_laws.proofs.FractionLaws.{pow_frac}
use Rattle.polys.specs.declared.term.Term.{Term}
use Rattle.polys.specs.Terms.{IsPoly, power}
use Rattle.polys.specs.Curve.{CurveData}
use Rattle.polys.proofs.Affine.{poly_power, positive}
use Rattle.ideal_laws.proofs.Ideals.{in_poly}
use Rattle.curve_model.specs.Fraction.{Fraction, IsFraction, over, sum_of, product_of}
use Rattle.curve_model.specs.Closure.{InModule}
use Rattle.curve_model.specs.Laws.{IsFinite, ArePolys, power_of}
use Rattle.curve_model.specs.Rings.{IsFractionRing, IsProduct, no_product, one_more, InRadical, IsFull, DescentLaw}
use Rattle.curve_laws.proofs.Members.{ideal_from, ideal_to}
use Rattle.ideal_laws.proofs.Members.{lift, terms-lift}
use Rattle.curve_laws.proofs.Facts.{same_member, contains_terms, contains_member}
use Rattle.curve_laws.proofs.Chains.{chain, flip, add_both, mul_both}
use Rattle.curve_laws.proofs.Base.{high, Ring, Poly, I, d, Q, Curve, member, pow-curve, equal_up, equal_down}
use Rattle.curve_laws.proofs.Locals.{local_up}
use Rattle.curve_laws.proofs.ManyPoints.{point_up}
use Rattle.curve_laws.proofs.Scalars.{point_laws}
use Rattle.curve_laws.proofs.StatedLaws.{frac, sum_poly, product_poly, sum-frac, product-frac}
use Rattle.curve_laws.proofs.SplitLaws.{Frac, unfrac, in_down}
use Rattle.curve_laws.proofs.Regulars.{regular_curve}

module _ (A : CurveData) (c : IsFinite A) where
  -- the ring of fractions
  abbrev pub Frs : CommRing
  Frs = fractions (Curve A c.curve) (d A c.curve) (regular_curve A c.curve)

  module _ (K : ℕ) (L : List (List Term)) (l : ArePolys A L) where
    abbrev pub L' : List (Poly A c.curve)
    L' = lift A.prime A.variables L l

    abbrev pub B : Fraction → Type 0
    B = InModule A K L

    abbrev pub B' : Frac A c → Type 0
    B' = PtLaws.ModuleOf (Q A c.curve) (d A c.curve) K L'

    pub module_up : (x : Frac A c) → B (unfrac A c x) → B' x
    module_up x w =
        let b : IsPoly A.prime A.variables w.0 = in_poly A.prime A.variables L w.0 (positive A.prime (high A c.curve)) l w.1 in (
          member A c.curve w.0 b,
          CurveLaws.apart (Ring A c.curve) (I A c.curve) L' (member A c.curve w.0 b)
              (Modules.span_left (Ring A c.curve) (Modules.own (Ring A c.curve)) L' (I A c.curve) (member A c.curve w.0 b) (ideal_from A.prime A.variables (high A c.curve) L l (member A c.curve w.0 b) w.1)),
          equal_up A c.curve (unfrac A c x) (over w.0 K) x.0.is_poly b w.2,
        )

    pub module_down : (x : Frac A c) → B' x → B (unfrac A c x)
    module_down x w =
        let cs = w.1.0 in
        let b : Poly A c.curve = combination (own_module (Ring A c.curve).ops) w.1.0 L' in (
          b.terms,
          ideal_to A.prime A.variables (high A c.curve) L l b (w.1.0, w.1.1, refl),
          equal_down A c.curve (unfrac A c x) (over b.terms K) x.0.is_poly b.is_poly
              (chain (Curve A c.curve) ((Q A c.curve).◌⊗◌ x.0 (pow (Q A c.curve) (d A c.curve) K)) ((Q A c.curve).◌⊗◌ w.0 (pow (Q A c.curve) (d A c.curve) x.1)) ((Q A c.curve).◌⊗◌ b (pow (Q A c.curve) (d A c.curve) x.1)) w.2
              (mul_both (Curve A c.curve) w.0 b (pow (Q A c.curve) (d A c.curve) x.1) (pow (Q A c.curve) (d A c.curve) x.1) w.1.2 ((Curve A c.curve).rfl (pow (Q A c.curve) (d A c.curve) x.1)))),
        )

    module _ (r : IsFractionRing A B) where
      pub ring_up : Fr.IsFractionRing (Q A c.curve) (d A c.curve) B'
      ring_up = record {
        resp = λ x y e h. module_up y (r.respects (unfrac A c x) (unfrac A c y) x.0.is_poly y.0.is_poly (equal_down A c.curve (unfrac A c x) (unfrac A c y) x.0.is_poly y.0.is_poly e) (module_down x h));
        one = module_up (Fr.fraction_ops (Q A c.curve) (d A c.curve)).𝟙 r.one;
        add = λ x y h k. subst B' (sym (sum-frac A c (unfrac A c x) (unfrac A c y) x.0.is_poly y.0.is_poly))
            (module_up (frac A c (sum_of A (unfrac A c x) (unfrac A c y)) (sum_poly A c (unfrac A c x) (unfrac A c y) x.0.is_poly y.0.is_poly)) (r.sum (unfrac A c x) (unfrac A c y) x.0.is_poly y.0.is_poly (module_down x h) (module_down y k)));
        mul = λ x y h k. subst B' (sym (product-frac A c (unfrac A c x) (unfrac A c y) x.0.is_poly y.0.is_poly))
            (module_up (frac A c (product_of A (unfrac A c x) (unfrac A c y)) (product_poly A c (unfrac A c x) (unfrac A c y) x.0.is_poly y.0.is_poly)) (r.product (unfrac A c x) (unfrac A c y) x.0.is_poly y.0.is_poly (module_down x h) (module_down y k)));
        neg = λ x h. module_up ((Fr.fraction_ops (Q A c.curve) (d A c.curve)).neg x) (r.negative (unfrac A c x) x.0.is_poly (module_down x h));
      }

    module _ (P : List (List Term)) (a : ArePolys A P) where
      abbrev pub P' : List (Poly A c.curve)
      P' = lift A.prime A.variables P a

      abbrev pub Products : Frac A c → Type 0
      Products = Ideals.ProductOf (Fr.fraction_ops (Q A c.curve) (d A c.curve)) (Fr.Whole (Q A c.curve) (d A c.curve) P') B'

      product_up : (f : Fraction) (h : IsFraction A f) → IsProduct A P B f → Products (frac A c f h)
      product_up _ h (no_product f hf e) = Ideals.no_product (frac A c f h) (equal_up A c.curve f (over [] 0) h (Ring A c.curve).𝟘.is_poly e)
      product_up _ h (one_more f b g q hf hb hg cq bb hy e) =
          let hq : IsPoly A.prime A.variables q = All-contains (IsPoly A.prime A.variables) P q a cq in
          let u : Frac A c = frac A c (over q 0) hq in
          Ideals.one_more (frac A c f h) u (frac A c b hb) (frac A c g hg)
          (member A c.curve q hq, contains_member P' (member A c.curve q hq) (subst (λ z. Contains z q) (sym (terms-lift A.prime A.variables P a)) cq), Frs.rfl u)
          (module_up (frac A c b hb) bb)
          (product_up g hg hy)
          (subst (λ z. (Fr.fraction_ops (Q A c.curve) (d A c.curve)).◌≈◌ (frac A c f h) z)
          (sym (ap (λ z. (Fr.fraction_ops (Q A c.curve) (d A c.curve)).◌⊕◌ z (frac A c g hg)) (product-frac A c (over q 0) b hq hb) ∙ sum-frac A c (product_of A (over q 0) b) g (product_poly A c (over q 0) b hq hb) hg))
          (equal_up A c.curve f (sum_of A (product_of A (over q 0) b) g) h (sum_poly A c (product_of A (over q 0) b) g (product_poly A c (over q 0) b hq hb) hg) e))

      product_down : (x : Frac A c) → Products x → IsProduct A P B (unfrac A c x)
      product_down _ (Ideals.no_product x z) = no_product (unfrac A c x) x.0.is_poly (equal_down A c.curve (unfrac A c x) (over [] 0) x.0.is_poly (Ring A c.curve).𝟘.is_poly z)
      product_down _ (Ideals.one_more x u v y hu hv hy z) =
          let q : Poly A c.curve = hu.0 in
          let w : Frac A c = (q, 0) in
          let s : Frac A c = (Fr.fraction_ops (Q A c.curve) (d A c.curve)).◌⊕◌ ((Fr.fraction_ops (Q A c.curve) (d A c.curve)).◌⊗◌ w v) y in
          one_more (unfrac A c x) (unfrac A c v) (unfrac A c y) q.terms x.0.is_poly v.0.is_poly y.0.is_poly
          (subst (λ g. Contains g q.terms) (terms-lift A.prime A.variables P a) (contains_terms P' q hu.1))
          (module_down v hv) (product_down y hy)
          (equal_down A c.curve (unfrac A c x) (sum_of A (product_of A (over q.terms 0) (unfrac A c v)) (unfrac A c y)) x.0.is_poly
          (sum_poly A c (product_of A (over q.terms 0) (unfrac A c v)) (unfrac A c y) (product_poly A c (over q.terms 0) (unfrac A c v) q.is_poly v.0.is_poly) y.0.is_poly)
          (subst (λ z. (Fr.fraction_ops (Q A c.curve) (d A c.curve)).◌≈◌ x z)
          (ap (λ z. (Fr.fraction_ops (Q A c.curve) (d A c.curve)).◌⊕◌ z y) (product-frac A c (over q.terms 0) (unfrac A c v) q.is_poly v.0.is_poly)
          ∙ sum-frac A c (product_of A (over q.terms 0) (unfrac A c v)) (unfrac A c y) (product_poly A c (over q.terms 0) (unfrac A c v) q.is_poly v.0.is_poly) y.0.is_poly)
          (chain Frs x (Frs.◌⊕◌ (Frs.◌⊗◌ u v) y) s z (add_both Frs (Frs.◌⊗◌ u v) (Frs.◌⊗◌ w v) y y (mul_both Frs u w v v hu.2 (Frs.rfl v)) (Frs.rfl y)))))

      -- powers of a fraction
      power_same : (f : Fraction) (h : IsFraction A f) (n : ℕ) → Frs.◌≈◌ (pow Frs.ops (frac A c f h) n) (frac A c (power_of A f n) (poly_power A.prime A.variables f.numerator n (high A c.curve) h))
      power_same f h n = subst (λ z. Frs.◌≈◌ (pow Frs.ops (frac A c f h) n) (z, f.exponent * n))
          (same_member (pow (Q A c.curve) (member A c.curve f.numerator h) n) (member A c.curve (power A.prime f.numerator n) (poly_power A.prime A.variables f.numerator n (high A c.curve) h)) (pow-curve A c.curve (member A c.curve f.numerator h) n))
          (pow_frac (Curve A c.curve) (d A c.curve) (regular_curve A c.curve) (member A c.curve f.numerator h) f.exponent n)

      pub radical_up : (f : Fraction) (h : IsFraction A f) → InRadical A P B f → Fr.RadicalAt (Q A c.curve) (d A c.curve) P' B' (frac A c f h)
      radical_up f h w = (
        module_up (frac A c f h) w.0,
        (
          w.1.0,
          IdealLaws.product_resp Frs (Fr.Whole (Q A c.curve) (d A c.curve) P') B' (frac A c (power_of A f w.1.0) (poly_power A.prime A.variables f.numerator w.1.0 (high A c.curve) h)) (pow Frs.ops (frac A c f h) w.1.0)
              (flip Frs (pow Frs.ops (frac A c f h) w.1.0) (frac A c (power_of A f w.1.0) (poly_power A.prime A.variables f.numerator w.1.0 (high A c.curve) h)) (power_same f h w.1.0))
              (product_up (power_of A f w.1.0) (poly_power A.prime A.variables f.numerator w.1.0 (high A c.curve) h) w.1.1),
        ),
      )

      pub radical_down : (f : Fraction) (h : IsFraction A f) → Fr.RadicalAt (Q A c.curve) (d A c.curve) P' B' (frac A c f h) → InRadical A P B f
      radical_down f h w = (
        module_down (frac A c f h) w.0,
        (
          w.1.0,
          product_down (frac A c (power_of A f w.1.0) (poly_power A.prime A.variables f.numerator w.1.0 (high A c.curve) h))
              (IdealLaws.product_resp Frs (Fr.Whole (Q A c.curve) (d A c.curve) P') B' (pow Frs.ops (frac A c f h) w.1.0) (frac A c (power_of A f w.1.0) (poly_power A.prime A.variables f.numerator w.1.0 (high A c.curve) h))
              (power_same f h w.1.0) w.1.1),
        ),
      )

      pub full_up : IsFull A P B → Fr.IsFullAt (Q A c.curve) (d A c.curve) P' B'
      full_up full h keep = module_up h (full (unfrac A c h) h.0.is_poly (λ f hf w.
          radical_down (product_of A (unfrac A c h) f) (product_poly A c (unfrac A c h) f h.0.is_poly hf)
          (subst (Fr.RadicalAt (Q A c.curve) (d A c.curve) P' B') (product-frac A c (unfrac A c h) f h.0.is_poly hf) (keep (frac A c f hf) (radical_up f hf w)))))

pub descent_law : DescentLaw
descent_law A c P point K L l r holds full f h w =
    let a = point.reduced.polys in
    module_down A c K L l (frac A c f h)
    ((point_laws A c).descent (lift A.prime A.variables P a) (CurvePoints.point_of_curve (Ring A c.curve) (I A c.curve) (d A c.curve) (lift A.prime A.variables P a) (point_up A c P a point)) K (lift A.prime A.variables L l)
    (ring_up A c K L l r) (λ x i. module_up A c K L l x (holds (unfrac A c x) x.0.is_poly (in_down A c (unfrac A c x) x.0.is_poly i))) (full_up A c K L l P a full)
    (member A c.curve f.numerator h) f.exponent (local_up A c.curve P a f h w))
