-- Rings of local fractions at polynomials.
use Rattle.std.proofs.Common.{◌↔◌, ℕ, suc, List, [], ◌∷◌, All, sym, subst}
use Rattle.std.specs.List.{Contains}
use Rattle.std.proofs.lemmas.List.Elements.{All-nil, All-cons, All-head, All-tail}
use Rattle.fraction_laws.specs.Fractions as Fr
use Rattle.point_laws.specs.Laws as PtLaws
use Rattle.point_laws.specs.Points as Pt
use Rattle.point_laws.proofs.CurvePoints as CurvePoints
use Rattle.polys.specs.declared.term.Term.{Term}
use Rattle.polys.specs.Terms.{IsPoly}
use Rattle.polys.specs.Curve.{CurveData}
use Rattle.curve_model.specs.Fraction.{Fraction, IsFraction, over, sum_of, product_of}
use Rattle.curve_model.specs.Local.{Local}
use Rattle.curve_model.specs.Point.{IsPoint}
use Rattle.curve_model.specs.Closure.{InModule}
use Rattle.curve_model.specs.Laws.{IsFinite, ArePolys}
use Rattle.curve_model.specs.Rings.{KeepsRadical, IsFull}
use Rattle.curve_model.specs.Enlarging.{IsLocalRing, Enlarges, Enlargement, FullIsLocal}
use Rattle.ideal_laws.proofs.Members.{lift}
use Rattle.curve_laws.proofs.Base.{Ring, Poly, I, d, Q, member, equal_up}
use Rattle.curve_laws.proofs.Locals.{local_up, local_down}
use Rattle.curve_laws.proofs.ManyPoints.{point_up}
use Rattle.curve_laws.proofs.Scalars.{point_laws}
use Rattle.curve_laws.proofs.StatedLaws.{frac, sum_poly, product_poly, sum-frac, product-frac, equals_down}
use Rattle.curve_laws.proofs.SplitLaws.{Frac, unfrac, in_down}
use Rattle.curve_laws.proofs.DescentLaws.{module_up, module_down, ring_up, radical_up, radical_down, full_up}

module _ (A : CurveData) (c : IsFinite A) (P : List (List Term)) (point : IsPoint A P) (K : ℕ) (L : List (List Term)) (l : ArePolys A L) (w : IsLocalRing A P K L) where
  abbrev a : ArePolys A P
  a = point.reduced.polys

  abbrev pub P' : List (Poly A c.curve)
  P' = lift A.prime A.variables P point.reduced.polys

  abbrev pub L' : List (Poly A c.curve)
  L' = lift A.prime A.variables L l

  abbrev B : Fraction → Type 0
  B = InModule A K L

  abbrev pub B' : Frac A c → Type 0
  B' = PtLaws.ModuleOf (Q A c.curve) (d A c.curve) K L'

  pub point' : Pt.Point (Q A c.curve) (d A c.curve) P'
  point' = CurvePoints.point_of_curve (Ring A c.curve) (I A c.curve) (d A c.curve) P' (point_up A c P point.reduced.polys point)

  locals : (fs : List (List Term)) (b : ArePolys A fs) → All (λ f. Local A P (over f K)) fs → All (λ f. Fr.LocalTo (Q A c.curve) (d A c.curve) (Contains P') f K) (lift A.prime A.variables fs b)
  unfolding lift
  locals [] b h = All-nil _
  locals (f ∷ fs) b h = All-cons (λ g. Fr.LocalTo (Q A c.curve) (d A c.curve) (Contains P') g K) (member A c.curve f (All-head (IsPoly A.prime A.variables) f fs b)) (lift A.prime A.variables fs (All-tail (IsPoly A.prime A.variables) f fs b))
      (local_up A c.curve P point.reduced.polys (over f K) (All-head (IsPoly A.prime A.variables) f fs b) (All-head (λ g. Local A P (over g K)) f fs h))
      (locals fs (All-tail (IsPoly A.prime A.variables) f fs b) (All-tail (λ g. Local A P (over g K)) f fs h))

  pub local_ring : PtLaws.IsLocalRing (Q A c.curve) (d A c.curve) P' K L'
  local_ring = record {
    ring = ring_up A c K L l w.ring;
    holds = λ x i. module_up A c K L l x (w.holds (unfrac A c x) x.0.is_poly (in_down A c (unfrac A c x) x.0.is_poly i));
    local = locals L l w.local;
  }

  abbrev W : Fraction → Type 0
  W = KeepsRadical A P B

  abbrev W' : Frac A c → Type 0
  W' = Fr.KeepsRadical (Q A c.curve) (d A c.curve) P' B'

  keeps_up : (h : Fraction) (b : IsFraction A h) → W h → W' (frac A c h b)
  keeps_up h b keep x r = subst (Fr.RadicalAt (Q A c.curve) (d A c.curve) P' B') (sym (product-frac A c h (unfrac A c x) b x.0.is_poly))
      (radical_up A c K L l P point.reduced.polys (product_of A h (unfrac A c x)) (product_poly A c h (unfrac A c x) b x.0.is_poly)
      (keep (unfrac A c x) x.0.is_poly (radical_down A c K L l P point.reduced.polys (unfrac A c x) x.0.is_poly r)))

  keeps_down : (x : Frac A c) → W' x → W (unfrac A c x)
  keeps_down x keep f hf r =
      radical_down A c K L l P point.reduced.polys (product_of A (unfrac A c x) f) (product_poly A c (unfrac A c x) f x.0.is_poly hf)
      (subst (Fr.RadicalAt (Q A c.curve) (d A c.curve) P' B') (product-frac A c (unfrac A c x) f x.0.is_poly hf) (keep (frac A c f hf) (radical_up A c K L l P point.reduced.polys f hf r)))

  law : Fr.IsFractionRing (Q A c.curve) (d A c.curve) W' × ((x : Frac A c) → B' x → W' x) × ((x : Frac A c) → W' x → ((b : Poly A c.curve) × Fr.Equal (Q A c.curve) (d A c.curve) x.0 x.1 b (suc K)) × Fr.LocalTo (Q A c.curve) (d A c.curve) (Contains P') x.0 x.1)
  law = (point_laws A c).enlargement P' point' K L' local_ring

  pub enlarged : Enlarges A P K B W
  enlarged = record {
    ring = record {
      respects = λ f g hf hg e k. keeps_down (frac A c g hg) (law.0.resp (frac A c f hf) (frac A c g hg) (equal_up A c.curve f g hf hg e) (keeps_up f hf k));
      one = keeps_down (Fr.fraction_ops (Q A c.curve) (d A c.curve)).𝟙 law.0.one;
      sum = λ f g hf hg h k. keeps_down (frac A c (sum_of A f g) (sum_poly A c f g hf hg)) (subst W' (sum-frac A c f g hf hg) (law.0.add (frac A c f hf) (frac A c g hg) (keeps_up f hf h) (keeps_up g hg k)));
      product = λ f g hf hg h k. keeps_down (frac A c (product_of A f g) (product_poly A c f g hf hg)) (subst W' (product-frac A c f g hf hg) (law.0.mul (frac A c f hf) (frac A c g hg) (keeps_up f hf h) (keeps_up g hg k)));
      negative = λ f hf h. keeps_down ((Fr.fraction_ops (Q A c.curve) (d A c.curve)).neg (frac A c f hf)) (law.0.neg (frac A c f hf) (keeps_up f hf h));
    };
    holds = λ f hf h. keeps_down (frac A c f hf) (law.1 (frac A c f hf) (module_up A c K L l (frac A c f hf) h));
    over = λ f hf h. equals_down A c (suc K) f hf (law.2 (frac A c f hf) (keeps_up f hf h)).0;
    local = λ f hf h. local_down A c.curve P point.reduced.polys f hf (law.2 (frac A c f hf) (keeps_up f hf h)).1;
  }

  pub full_local : IsFull A P B → (f : Fraction) → IsFraction A f → B f ↔ Local A P f
  full_local full f hf =
      let e = (point_laws A c).full P' point' K L' local_ring (full_up A c K L l P point.reduced.polys full) (member A c.curve f.numerator hf) f.exponent in (
        (λ h. local_down A c.curve P point.reduced.polys f hf (e.0 (module_up A c K L l (frac A c f hf) h))),
        λ h. module_down A c K L l (frac A c f hf) (e.1 (local_up A c.curve P point.reduced.polys f hf h)),
      )

pub enlargement_law : Enlargement
enlargement_law A c P point K L l w = enlarged A c P point K L l w

pub full_law : FullIsLocal
full_law A c P point K L l w full f hf = full_local A c P point K L l w full f hf
