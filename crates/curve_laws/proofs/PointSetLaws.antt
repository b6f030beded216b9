-- Sets of points: what is local at them depends on the set alone, and distinct points are few.
use Rattle.std.proofs.Common.{◌≡◌, ◌⊎◌, inl, inr, ℕ, suc, ◌<◌, ◌≤◌, List, [], ◌∷◌, map, length, All, refl, sym, ap, subst, arith}
use Rattle.std.specs.List.{AllZip, Contains}
use Rattle.std.proofs.lemmas.List.Elements.{All-head, All-tail}
use Rattle.fraction_laws.proofs.CurveLaws as CurveLaws
use Rattle.polys.specs.declared.term.Term.{Term}
use Rattle.polys.specs.Terms.{IsPoly, mul, product, one}
use Rattle.polys.specs.Ideal.{InIdeal}
use Rattle.polys.specs.Curve.{CurveData, data_of}
use Rattle.polys.proofs.Sums.{mul_assoc, mul_comm}
use Rattle.polys.proofs.Units.{mul_one}
use Rattle.polys.proofs.Affine.{poly_none, poly_one, poly_mul, sevens_of, poly_product}
use Rattle.ideal_laws.proofs.Ideals.{in_mul, in_none}
use Rattle.ideal_laws.proofs.Unique.{contains_cases, contains_none, contains_head, contains_tail}
use Rattle.curve_model.specs.Fraction.{Fraction, IsFraction, InA, denominator_power, sum_of}
use Rattle.curve_model.specs.Local.{Local, LocalAt, AreMembers, TakesIntoA}
use Rattle.curve_model.specs.Laws.{IsFinite, ArePolys, SumOfParts, total}
use Rattle.curve_model.specs.PointSets.{LocalAtGrows, SumsDependOnTheSet, PointsAreFew, FitCurvesHaveFewPoints}
use Rattle.curve_laws.proofs.Base.{high, Ring, I, d}
use Rattle.curve_laws.proofs.LocalRingLaws.{local_ring_law}
use Rattle.curve_laws.proofs.Locals.{members_poly}
use Rattle.curve_laws.proofs.ManyPoints.{lift_all, polys_of_points, distinct_up}
use Rattle.curve_laws.proofs.Scalars.{scalar, dimension, point_laws}
use Rattle.curve_laws.proofs.FitLaws.{fit_law}
use Rattle.curve_laws.proofs.StatedLaws.{sum_poly}
use Rattle.curve_laws.proofs.Regulars.{turn_equal}
use Rattle.curve_laws.proofs.SplitLaws.{none_law, parts_law, total_poly}

module _ (A : CurveData) (c : IsFinite A) where
  above : 1 < A.prime
  above = high A c.curve

  pos : 0 < A.prime
  pos = let h = above in omega arith

  abbrev Poly : List Term → Type 0
  Poly f = IsPoly A.prime A.variables f

  products_poly : (S : List (List (List Term))) → All (ArePolys A) S → (m : ℕ) (ls : List (List (List Term))) → AllZip (AreMembers m) S ls → Poly (product A.prime (map (product A.prime) ls))
  products_poly [] h m [] z = poly_one A.prime A.variables above
  products_poly [] h m (l ∷ ls) z = absurd z
  products_poly (P ∷ S) h m [] z = absurd z
  products_poly (P ∷ S) h m (l ∷ ls) z =
      poly_mul A.prime A.variables (product A.prime l) (product A.prime (map (product A.prime) ls)) pos
      (poly_product A.prime A.variables l above (members_poly A.prime A.variables P l (All-head (ArePolys A) P S h) z.0.members)) (products_poly S (All-tail (ArePolys A) P S h) m ls z.1)

  -- multiples of what is taken into A are taken
  more : (h x : List Term) (f : Fraction) → Poly h → TakesIntoA A x f → TakesIntoA A (mul A.prime h x) f
  more h x f hp t =
      subst (InIdeal A.prime A.variables (denominator_power A f.exponent ∷ A.ideal)) (sym (mul_assoc A.prime h x f.numerator))
      (in_mul A.prime A.variables (denominator_power A f.exponent ∷ A.ideal) h (mul A.prime x f.numerator) pos hp t)

  swapped : (h x : List Term) (f : Fraction) → Poly h → TakesIntoA A x f → TakesIntoA A (mul A.prime x h) f
  swapped h x f hp t = subst (λ w. TakesIntoA A w f) (mul_comm A.prime h x) (more h x f hp t)

  module _ (f : Fraction) (P : List (List Term)) (w : Local A P f) where
    take : (S : List (List (List Term))) → All (ArePolys A) S → Contains S P → (ls : List (List (List Term))) → AllZip (AreMembers w.m) S ls → TakesIntoA A (product A.prime (map (product A.prime) ls)) f
    take [] q k ls z = absurd (contains_none P k)
    take (R ∷ S) q k [] z = absurd z
    take (R ∷ S) q k (l ∷ ls) z = go (contains_cases R P S k) (λ r. take S (All-tail (ArePolys A) R S q) r ls z.1)
      where
        go : (R ≡ P) ⊎ Contains S P → (Contains S P → TakesIntoA A (product A.prime (map (product A.prime) ls)) f) → TakesIntoA A (product A.prime (map (product A.prime) (l ∷ ls))) f
        go (inl e) rest = swapped (product A.prime (map (product A.prime) ls)) (product A.prime l) f (products_poly S (All-tail (ArePolys A) R S q) w.m ls z.1) (w.takes l (subst (λ u. AreMembers w.m u l) e z.0))
        go (inr r) rest = more (product A.prime l) (product A.prime (map (product A.prime) ls)) f (poly_product A.prime A.variables l above (members_poly A.prime A.variables R l (All-head (ArePolys A) R S q) z.0.members)) (rest r)

    pub local_at : (S : List (List (List Term))) → All (ArePolys A) S → Contains S P → LocalAt A S f
    local_at S q k = record { integral = w.integral; m = w.m; takes = take S q k }

  module _ (S : List (List (List Term))) (q : All (ArePolys A) S) where
    pub whole_at : (f : Fraction) → IsFraction A f → InA A f → LocalAt A S f
    whole_at f h i =
        let l : LocalAt A [] f = (none_law A c f h).1 i in
        record {
          integral = l.integral;
          m = 0;
          takes = λ ls z.
              let p = products_poly S q 0 ls z in
              subst (λ u. TakesIntoA A u f) (mul_one A.prime (product A.prime (map (product A.prime) ls)) p.canonical (sevens_of A.prime A.variables _ p)) (more (product A.prime (map (product A.prime) ls)) one f p (l.takes [] tt));
        }

    parts_at : (T : List (List (List Term))) → ((P : List (List Term)) → Contains T P → Contains S P) → (fs : List Fraction) → All (IsFraction A) fs → AllZip (Local A) T fs → LocalAt A S (total A fs)
    parts_at [] sub [] h z = whole_at (total A []) (poly_none A.prime A.variables) ([], poly_none A.prime A.variables, in_none A.prime A.variables A.ideal)
    parts_at [] sub (f ∷ fs) h z = absurd z
    parts_at (P ∷ T) sub [] h z = absurd z
    parts_at (P ∷ T) sub (f ∷ fs) h z =
        (local_ring_law A c S q).sum f (total A fs) (All-head (IsFraction A) f fs h) (total_poly A c fs (All-tail (IsFraction A) f fs h)) (local_at f P z.0 S q (sub P (contains_head P T)))
        (parts_at T (λ R k. sub R (contains_tail P R T k)) fs (All-tail (IsFraction A) f fs h) z.1)

    sum_at : (T : List (List (List Term))) → ((P : List (List Term)) → Contains T P → Contains S P) → (f : Fraction) → IsFraction A f → SumOfParts A T f → LocalAt A S f
    sum_at T sub f h s =
        let g : Fraction = sum_of A s.whole (total A s.parts) in
        let tp = total_poly A c s.parts s.fractions in
        let gp : IsFraction A g = sum_poly A c s.whole (total A s.parts) s.whole_fraction tp in
        let r = local_ring_law A c S q in
        r.respects g f gp h (turn_equal A c.curve f g h gp s.equal)
        (r.sum s.whole (total A s.parts) s.whole_fraction tp (whole_at s.whole s.whole_fraction s.whole_in) (parts_at T sub s.parts s.fractions s.local))

pub grows_law : LocalAtGrows
grows_law A c S T s t sub f h w = sum_at A c S (polys_of_points A c S s.points) T sub f h ((parts_law A c T t f h).0 w)

pub sets_law : SumsDependOnTheSet
sets_law A c S T s t same f h = (
  (λ w. (parts_law A c T t f h).0 (sum_at A c T (polys_of_points A c T t.points) S (λ P k. (same P).1 k) f h w)),
  λ w. (parts_law A c S s f h).0 (sum_at A c S (polys_of_points A c S s.points) T (λ P k. (same P).0 k) f h w),
)

-- ---- how many points there are

length-lift_all : (A : CurveData) (c : IsFinite A) (S : List (List (List Term))) (a : All (ArePolys A) S) → length (lift_all A c S a) ≡ length S
unfolding lift_all
length-lift_all A c [] a = refl
length-lift_all A c (P ∷ S) a = ap suc (length-lift_all A c S (All-tail (ArePolys A) P S a))

pub few_law : PointsAreFew
few_law A r N D S h =
    let c : IsFinite A = record { curve = r; dimension = (N, D) } in
    let q = polys_of_points A c S h.points in
    subst (λ k. k ≤ N) (length-lift_all A c S q)
    ((point_laws A c).few N (CurveLaws.dimension_of_curve (Ring A r) (I A r) (scalar A c) (d A r) N (dimension A c)) (lift_all A c S q) (distinct_up A c S q h))

pub fit_few_law : FitCurvesHaveFewPoints
fit_few_law c prime fit S h =
    let l : length S ≤ fit.finite.0 = few_law (data_of c) (fit_law c prime fit).curve fit.finite.0 fit.finite.2 S h in
    let most : fit.finite.0 ≤ 256 = fit.finite.1 in
    omega arith
