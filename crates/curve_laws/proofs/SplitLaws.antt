-- Integral fractions at lists of points: all points, sums of parts, and the sum's directness.
use Rattle.std.proofs.Common.{◌≡◌, List, [], ◌∷◌, map, All, refl, sym, ap, ap₂, ◌∙◌, subst}
use Rattle.std.specs.List.{AllZip}
use Rattle.std.proofs.lemmas.List.Elements.{All-nil, All-cons, All-head, All-tail}
use Rattle.comm_ring.specs.Ring.{pow}
use Rattle.comm_ring.specs.Sums as Sums
use Rattle.comm_ring.specs.Sums.{joined}
use Rattle.fraction_laws.specs.Fractions as Fr
use Rattle.point_laws.specs.Points as Pt
use Rattle.polys.specs.declared.term.Term.{Term}
use Rattle.polys.specs.Curve.{CurveData}
use Rattle.curve_model.specs.Fraction.{Fraction, IsFraction, InA, over, sum_of}
use Rattle.curve_model.specs.Local.{Local, LocalAt}
use Rattle.curve_model.specs.Point.{IsPoint}
use Rattle.curve_model.specs.Laws.{IsFinite, ArePolys, total, SumOfParts, AllPointsSuffice, LocalIsSumOfParts, IntegralIsSumOfParts, PartsAreDirect, LocalAtNone, NoPoints}
use Rattle.curve_laws.proofs.Facts.{same_member}
use Rattle.curve_laws.proofs.Chains.{power_none, over_none}
use Rattle.curve_laws.proofs.Base.{Ring, d, Q, Curve, member, equal_up, equal_down}
use Rattle.curve_laws.proofs.Equations.{integral_up}
use Rattle.curve_laws.proofs.Locals.{local_up, local_down}
use Rattle.curve_laws.proofs.Scalars.{point_laws}
use Rattle.curve_laws.proofs.StatedLaws.{frac, sum_poly, sum-frac, equals_up, equals_down}
use Rattle.curve_laws.proofs.ManyPoints.{lift_all, local_at_up, local_at_down, polys_of_points, all_points_up, distinct_up}

module _ (A : CurveData) (c : IsFinite A) where
  abbrev pub Frac : Type 0
  Frac = Fr.Frac (Q A c.curve) (d A c.curve)

  -- a fraction of the ring modulo I as one of polynomials
  abbrev pub unfrac : Frac → Fraction
  unfrac x = over x.0.terms x.1

  unfoldable pub frac_all : (fs : List Fraction) → All (IsFraction A) fs → List Frac
  frac_all [] h = []
  frac_all (f ∷ fs) h = frac A c f (All-head (IsFraction A) f fs h) ∷ frac_all fs (All-tail (IsFraction A) f fs h)

  pub fractions_of : (xs : List Frac) → All (IsFraction A) (map unfrac xs)
  fractions_of [] = All-nil (IsFraction A)
  fractions_of (x ∷ xs) = All-cons (IsFraction A) (unfrac x) (map unfrac xs) x.0.is_poly (fractions_of xs)

  refrac : (xs : List Frac) (h : All (IsFraction A) (map unfrac xs)) → frac_all (map unfrac xs) h ≡ xs
  unfolding frac_all
  refrac [] h = refl
  refrac (x ∷ xs) h = ap₂ ◌∷◌ (same x (All-head (IsFraction A) (unfrac x) (map unfrac xs) h)) (refrac xs (All-tail (IsFraction A) (unfrac x) (map unfrac xs) h))
    where
      same : (x : Frac) (b : IsFraction A (unfrac x)) → frac A c (unfrac x) b ≡ x
      same x b = ap (λ z. (z, x.1)) (same_member (member A c.curve x.0.terms b) x.0 refl)

  abbrev Sum : List Frac → Frac
  Sum xs = Sums.sum (Fr.fraction_ops (Q A c.curve) (d A c.curve)) (λ f. f) xs

  pub total_poly : (fs : List Fraction) → All (IsFraction A) fs → IsFraction A (total A fs)
  total_poly [] h = (Ring A c.curve).𝟘.is_poly
  total_poly (f ∷ fs) h = sum_poly A c f (total A fs) (All-head (IsFraction A) f fs h) (total_poly fs (All-tail (IsFraction A) f fs h))

  total-frac : (fs : List Fraction) (h : All (IsFraction A) fs) → Sum (frac_all fs h) ≡ frac A c (total A fs) (total_poly fs h)
  unfolding joined frac_all total_poly
  total-frac [] h = refl
  total-frac (f ∷ fs) h =
      ap (λ z. (Fr.fraction_ops (Q A c.curve) (d A c.curve)).◌⊕◌ (frac A c f (All-head (IsFraction A) f fs h)) z) (total-frac fs (All-tail (IsFraction A) f fs h))
      ∙ sum-frac A c f (total A fs) (All-head (IsFraction A) f fs h) (total_poly fs (All-tail (IsFraction A) f fs h))

  pub in_up : (f : Fraction) (a : IsFraction A f) → InA A f → Fr.InA (Q A c.curve) (d A c.curve) (frac A c f a)
  in_up f a w = let q = equals_up A c 0 f a w in (q.0, power_none (Curve A c.curve) (d A c.curve) (member A c.curve f.numerator a) ((Q A c.curve).◌⊗◌ q.0 (pow (Q A c.curve) (d A c.curve) f.exponent)) q.1)

  pub in_down : (f : Fraction) (a : IsFraction A f) → Fr.InA (Q A c.curve) (d A c.curve) (frac A c f a) → InA A f
  in_down f a w = equals_down A c 0 f a (w.0, over_none (Curve A c.curve) (d A c.curve) (member A c.curve f.numerator a) ((Q A c.curve).◌⊗◌ w.0 (pow (Q A c.curve) (d A c.curve) f.exponent)) w.1)

  all_in_down : (fs : List Fraction) (h : All (IsFraction A) fs) → All (Fr.InA (Q A c.curve) (d A c.curve)) (frac_all fs h) → All (InA A) fs
  unfolding frac_all
  all_in_down [] h w = All-nil (InA A)
  all_in_down (f ∷ fs) h w = All-cons (InA A) f fs
      (in_down f (All-head (IsFraction A) f fs h) (All-head (Fr.InA (Q A c.curve) (d A c.curve)) (frac A c f (All-head (IsFraction A) f fs h)) (frac_all fs (All-tail (IsFraction A) f fs h)) w))
      (all_in_down fs (All-tail (IsFraction A) f fs h) (All-tail (Fr.InA (Q A c.curve) (d A c.curve)) (frac A c f (All-head (IsFraction A) f fs h)) (frac_all fs (All-tail (IsFraction A) f fs h)) w))

  parts_up : (S : List (List (List Term))) (a : All (ArePolys A) S) (fs : List Fraction) (h : All (IsFraction A) fs) → AllZip (Local A) S fs → Pt.Parts (Q A c.curve) (d A c.curve) (lift_all A c S a) (frac_all fs h)
  unfolding lift_all frac_all
  parts_up [] a [] h w = tt
  parts_up [] a (f ∷ fs) h w = absurd w
  parts_up (P ∷ S) a [] h w = absurd w
  parts_up (P ∷ S) a (f ∷ fs) h w = (local_up A c.curve P (All-head (ArePolys A) P S a) f (All-head (IsFraction A) f fs h) w.0, parts_up S (All-tail (ArePolys A) P S a) fs (All-tail (IsFraction A) f fs h) w.1)

  parts_down : (S : List (List (List Term))) (a : All (ArePolys A) S) (xs : List Frac) → Pt.Parts (Q A c.curve) (d A c.curve) (lift_all A c S a) xs → AllZip (Local A) S (map unfrac xs)
  unfolding lift_all
  parts_down [] a [] w = tt
  parts_down [] a (x ∷ xs) w = absurd w
  parts_down (P ∷ S) a [] w = absurd w
  parts_down (P ∷ S) a (x ∷ xs) w = (local_down A c.curve P (All-head (ArePolys A) P S a) (unfrac x) x.0.is_poly w.0, parts_down S (All-tail (ArePolys A) P S a) xs w.1)

  module _ (S : List (List (List Term))) (a : All (ArePolys A) S) (f : Fraction) (h : IsFraction A f) where
    sum_up : SumOfParts A S f → Pt.SumOfParts (Q A c.curve) (d A c.curve) (lift_all A c S a) (member A c.curve f.numerator h) f.exponent
    sum_up w = (
      frac A c w.whole w.whole_fraction,
      frac_all w.parts w.fractions,
      in_up w.whole w.whole_fraction w.whole_in,
      parts_up S a w.parts w.fractions w.local,
      subst (λ z. (Fr.fraction_ops (Q A c.curve) (d A c.curve)).◌≈◌ (frac A c f h) z)
          (sym (ap (λ z. (Fr.fraction_ops (Q A c.curve) (d A c.curve)).◌⊕◌ (frac A c w.whole w.whole_fraction) z) (total-frac w.parts w.fractions)
          ∙ sum-frac A c w.whole (total A w.parts) w.whole_fraction (total_poly w.parts w.fractions)))
          (equal_up A c.curve f (sum_of A w.whole (total A w.parts)) h (sum_poly A c w.whole (total A w.parts) w.whole_fraction (total_poly w.parts w.fractions)) w.equal),
    )

    sum_down : Pt.SumOfParts (Q A c.curve) (d A c.curve) (lift_all A c S a) (member A c.curve f.numerator h) f.exponent → SumOfParts A S f
    sum_down w =
        let parts = map unfrac w.1 in
        let b : All (IsFraction A) (map unfrac w.1) = fractions_of w.1 in record {
          whole = unfrac w.0;
          parts = map unfrac w.1;
          whole_fraction = w.0.0.is_poly;
          fractions = fractions_of w.1;
          whole_in = in_down (unfrac w.0) w.0.0.is_poly w.2;
          local = parts_down S a w.1 w.3;
          equal = equal_down A c.curve f (sum_of A (unfrac w.0) (total A (map unfrac w.1))) h (sum_poly A c (unfrac w.0) (total A (map unfrac w.1)) w.0.0.is_poly (total_poly (map unfrac w.1) (fractions_of w.1)))
              (subst (λ z. (Fr.fraction_ops (Q A c.curve) (d A c.curve)).◌≈◌ (frac A c f h) z)
              (ap (λ z. (Fr.fraction_ops (Q A c.curve) (d A c.curve)).◌⊕◌ w.0 (Sum z)) (sym (refrac w.1 (fractions_of w.1)))
              ∙ ap (λ z. (Fr.fraction_ops (Q A c.curve) (d A c.curve)).◌⊕◌ w.0 z) (total-frac (map unfrac w.1) (fractions_of w.1))
              ∙ sum-frac A c (unfrac w.0) (total A (map unfrac w.1)) w.0.0.is_poly (total_poly (map unfrac w.1) (fractions_of w.1)))
              w.4);
        }

  -- at no point
  at_up : (q : All (ArePolys A) []) (f : Fraction) (a : IsFraction A f) → LocalAt A [] f → Pt.LocalAt (Q A c.curve) (d A c.curve) [] (member A c.curve f.numerator a) f.exponent
  unfolding lift_all
  at_up q f a w = local_at_up A c [] q f a w

  at_down : (q : All (ArePolys A) []) (f : Fraction) (a : IsFraction A f) → Pt.LocalAt (Q A c.curve) (d A c.curve) [] (member A c.curve f.numerator a) f.exponent → LocalAt A [] f
  unfolding lift_all
  at_down q f a w = local_at_down A c [] q f a w

pub all_points_law : AllPointsSuffice
all_points_law A c S h all f a =
    let q = polys_of_points A c S h in
    let e = (point_laws A c).all_points (lift_all A c S q) (all_points_up A c S q h all) (member A c.curve f.numerator a) f.exponent in
    ((λ w. local_at_down A c S q f a (e.0 (integral_up A c.curve f a w))), λ w. w.integral)

pub parts_law : LocalIsSumOfParts
parts_law A c S h f a =
    let q = polys_of_points A c S h.points in
    let e = (point_laws A c).parts (lift_all A c S q) (distinct_up A c S q h) (member A c.curve f.numerator a) f.exponent in
    ((λ w. sum_down A c S q f a (e.0 (local_at_up A c S q f a w))), λ w. local_at_down A c S q f a (e.1 (sum_up A c S q f a w)))

pub direct_law : PartsAreDirect
direct_law A c S h parts b l i =
    let q = polys_of_points A c S h.points in
    all_in_down A c parts b ((point_laws A c).direct (lift_all A c S q) (distinct_up A c S q h) (frac_all A c parts b) (parts_up A c S q parts b l)
    (subst (Fr.InA (Q A c.curve) (d A c.curve)) (sym (total-frac A c parts b)) (in_up A c (total A parts) (total_poly A c parts b) i)))

pub none_law : LocalAtNone
none_law A c f a =
    let q : All (ArePolys A) [] = All-nil (ArePolys A) in
    let e = (point_laws A c).rings.1 (member A c.curve f.numerator a) f.exponent in
    ((λ w. in_down A c f a (e.0 (at_up A c q f a w))), λ w. at_down A c q f a (e.1 (in_up A c f a w)))

pub no_points_law : NoPoints
no_points_law A c none f a w =
    let e = all_points_law A c [] (All-nil (IsPoint A)) (λ P m. absurd (none P m)) f a in
    (none_law A c f a).0 (e.0 w)

pub all_parts_law : IntegralIsSumOfParts
all_parts_law A c S h all f a =
    let e = all_points_law A c S h.points all f a in
    let g = parts_law A c S h f a in
    ((λ w. g.0 (e.0 w)), λ w. e.1 (g.1 w))
