-- Residues as constant polynomials, and the dimension modulo d over them.
use Rattle.std.proofs.Common.{◌≡◌, ℕ, ◌<◌, List, [], ◌∷◌, ◌++◌, refl, sym, ap, ap₂, ◌∙◌, subst, mod-eq_of_lt}
use Rattle.std.proofs.lemmas.List.{length-map}
use Rattle.comm_ring.specs.Ring.{CommRing, IsRingMap}
use Rattle.comm_ring.specs.Residues.{residue_ops}
use Rattle.comm_ring.specs.Modules.{ModuleOps, combine, combination, Dimension, module_through, IsSubmodule}
use Rattle.comm_ring.specs.Ideals as Ideals
use Rattle.comm_ring.proofs.Residues.{residues}
use Rattle.comm_ring.proofs.Fields.{residue_coefficients}
use Rattle.prime_field.proofs.Table.{positive_of_prime}
use Rattle.comm_ring.proofs.Ideals as IdealLaws
use Rattle.comm_ring.proofs.Modules.{Module, through}
use Rattle.comm_ring.proofs.Quotients.{quotient}
use Rattle.fraction_laws.specs.Curves.{space_over}
use Rattle.fraction_laws.specs.Laws.{FractionLaws}
use Rattle.fraction_laws.proofs.CurveLaws as CurveLaws
use Rattle.point_laws.specs.Laws.{PointLaws}
use Rattle.point_laws.proofs.CurvePoints as CurvePoints
use Rattle.monomials.specs.Mono.{unit}
use Rattle.polys.specs.Terms.{keep, add, sub}
use Rattle.polys.specs.Ideal.{InIdeal, number_combination}
use Rattle.polys.specs.Curve.{CurveData}
use Rattle.ideal_laws.proofs.Constants.{constant_sum, constant_product}
use Rattle.polys.proofs.Affine.{constant, poly_constant, mul_constant, sevens_of, positive}
use Rattle.curve_model.specs.Laws.{IsFinite}
use Rattle.curve_laws.proofs.Members.{ideal_up, ideal_down}
use Rattle.ideal_laws.proofs.Members.{terms_of, lift, terms-lift, polys_of, length-lift}
use Rattle.curve_laws.proofs.Regulars.{regular}
use Rattle.curve_laws.proofs.Base.{high, Ring, Poly, I, d, Q, member}

module _ (A : CurveData) (c : IsFinite A) where
  pub above : 0 < A.prime
  above = positive A.prime (high A c.curve)

  -- the constant polynomial
  abbrev pub scalar : ℕ → Poly A c.curve
  scalar e = record { terms = constant A.prime e; is_poly = poly_constant A.prime A.variables e above }

  pub scalar_map : IsRingMap (residue_ops A.prime) (Ring A c.curve).ops scalar
  scalar_map = record {
    resp = λ x y e. ap (λ r. keep r unit []) e;
    one = ap (λ r. keep r unit []) (mod-eq_of_lt (high A c.curve));
    add = constant_sum A.prime above;
    mul = constant_product A.prime above;
  }

  -- ---- the dimension modulo d

  abbrev K : CommRing
  K = residues A.prime (positive_of_prime A.prime c.curve.prime)

  pub combination-numbers : (cs : List ℕ) (us : List (Poly A c.curve)) → (combination (module_through (Ring A c.curve).ops scalar) cs us).terms ≡ number_combination A.prime cs (terms_of us)
  unfolding combine
  combination-numbers [] us = refl
  combination-numbers (e ∷ cs) [] = refl
  combination-numbers (e ∷ cs) (u ∷ us) = ap₂ (add A.prime) (mul_constant A.prime e u.terms (sevens_of A.prime A.variables u.terms u.is_poly)) (combination-numbers cs us)

  abbrev Space : ModuleOps ℕ
  Space = space_over (Ring A c.curve).ops (I A c.curve) scalar (d A c.curve)

  ideal : IsSubmodule (module_through (Ring A c.curve).ops scalar) (Ideals.InIdeal (Ring A c.curve).ops (I A c.curve ++ (d A c.curve ∷ [])))
  ideal = let i = IdealLaws.ideal_of_list (Ring A c.curve) (I A c.curve ++ (d A c.curve ∷ [])) in record { resp = i.resp; none = i.none; add = i.add; scale = λ e x h. i.scale (scalar e) x h }

  abbrev space : Module K
  space = quotient K (through K (Ring A c.curve) scalar scalar_map) (Ideals.InIdeal (Ring A c.curve).ops (I A c.curve ++ (d A c.curve ∷ []))) ideal

  first : terms_of (d A c.curve ∷ I A c.curve) ≡ A.denominator ∷ A.ideal
  first = ap (λ l. A.denominator ∷ l) (terms-lift A.prime A.variables A.ideal c.curve.ideal)

  in_up : (x : Poly A c.curve) → InIdeal A.prime A.variables (A.denominator ∷ A.ideal) x.terms → Ideals.InIdeal (Ring A c.curve).ops (I A c.curve ++ (d A c.curve ∷ [])) x
  in_up x h = CurveLaws.turned_back (Ring A c.curve) (I A c.curve) (d A c.curve) x
      (ideal_up A.prime A.variables (high A c.curve) (d A c.curve ∷ I A c.curve) x (subst (λ g. InIdeal A.prime A.variables g x.terms) (sym first) h))

  in_down : (x : Poly A c.curve) → Ideals.InIdeal (Ring A c.curve).ops (I A c.curve ++ (d A c.curve ∷ [])) x → InIdeal A.prime A.variables (A.denominator ∷ A.ideal) x.terms
  in_down x h = subst (λ g. InIdeal A.prime A.variables g x.terms) first
      (ideal_down A.prime A.variables (high A c.curve) (d A c.curve ∷ I A c.curve) x (CurveLaws.turned (Ring A c.curve) (I A c.curve) (d A c.curve) x h))

  abbrev differ : Poly A c.curve → List ℕ → List (Poly A c.curve) → Poly A c.curve
  differ f cs us = (Ring A c.curve).◌⊕◌ f ((Ring A c.curve).neg (combination (module_through (Ring A c.curve).ops scalar) cs us))

  difference-terms : (f : Poly A c.curve) (cs : List ℕ) (us : List (Poly A c.curve)) → ((Ring A c.curve).◌⊕◌ f ((Ring A c.curve).neg (combination (module_through (Ring A c.curve).ops scalar) cs us))).terms ≡ sub A.prime f.terms (number_combination A.prime cs (terms_of us))
  difference-terms f cs us = ap (sub A.prime f.terms) (combination-numbers cs us)

  pub dimension : Dimension Space c.dimension.0
  dimension =
      let D = c.dimension.1 in
      let us = lift A.prime A.variables D.basis D.spans.polys in
      let t : terms_of us ≡ D.basis = terms-lift A.prime A.variables D.basis D.spans.polys in (
        us,
        length-lift A.prime A.variables D.basis D.spans.polys ∙ D.as_many,
        (λ k e l. tt),
        (λ f h. let s = D.spans.each f.terms f.is_poly in (
          s.residues,
          s.as_many ∙ sym (length-lift A.prime A.variables D.basis D.spans.polys),
          in_up (differ f s.residues us) (subst (InIdeal A.prime A.variables (A.denominator ∷ A.ideal))
              (sym (difference-terms f s.residues us ∙ ap (λ l. sub A.prime f.terms (number_combination A.prime s.residues l)) t)) s.close),
        )),
        λ vs a l s. D.least (terms_of vs) (subst (λ k. k < c.dimension.0) (sym (length-map vs (λ g. g.terms))) l) (record {
          polys = polys_of A.prime A.variables vs;
          each = λ f h.
              let r = residue_coefficients A.prime (positive_of_prime A.prime c.curve.prime) space vs (member A c.curve f h) (s (member A c.curve f h) tt) in
              record {
                residues = r.0;
                below = r.2;
                as_many = r.1 ∙ sym (length-map vs (λ g. g.terms));
                close = subst (InIdeal A.prime A.variables (A.denominator ∷ A.ideal)) (difference-terms (member A c.curve f h) r.0 vs) (in_down (differ (member A c.curve f h) r.0 vs) r.3);
              };
        }),
      )

  -- the laws of the ring modulo I
  pub laws : FractionLaws (Q A c.curve) (d A c.curve) A.prime scalar
  laws = CurveLaws.curve_laws (Ring A c.curve) (I A c.curve) (d A c.curve) (regular A c.curve) A.prime c.curve.prime scalar scalar_map c.dimension.0 dimension

  -- and those at points
  pub point_laws : PointLaws (Q A c.curve) (d A c.curve) A.prime scalar
  point_laws = CurvePoints.curve_point_laws (Ring A c.curve) (I A c.curve) (d A c.curve) (regular A c.curve) A.prime c.curve.prime scalar scalar_map c.dimension.0 dimension
