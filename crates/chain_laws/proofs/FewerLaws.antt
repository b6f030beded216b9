-- A point has one delta, and of independent local fractions any smaller number are there too.
use Rattle.std.proofs.Common.{◌≡◌, ℕ, zero, suc, ◌<◌, ◌+◌, List, [], ◌∷◌, length, All, sym, ap, subst, arith}
use Rattle.std.proofs.lemmas.List.Elements.{All-nil, All-cons, All-head, All-tail}
use Rattle.polys.specs.declared.term.Term.{Term}
use Rattle.polys.specs.Terms.{mul, sub}
use Rattle.polys.specs.Ideal.{InIdeal}
use Rattle.polys.specs.Curve.{CurveData}
use Rattle.polys.proofs.Affine.{poly_none}
use Rattle.ideal_laws.proofs.Multiples.{multiple_zero}
use Rattle.ideal_laws.proofs.Ideals.{in_none}
use Rattle.curve_model.specs.Fraction.{Fraction, IsFraction, InA, denominator_power, sum_of, multiple_of}
use Rattle.curve_model.specs.Local.{Local, LocalAt}
use Rattle.curve_model.specs.Delta as Delta
use Rattle.curve_model.specs.Delta.{AreIndependent, HasIndependent}
use Rattle.curve_model.specs.Laws.{IsFinite, ArePolys}
use Rattle.curve_model.specs.OneDelta.{DeltaIsUnique, FewerAreIndependent}
use Rattle.ideal_laws.proofs.Members.{lift}
use Rattle.curve_laws.proofs.Base.{high}
use Rattle.curve_laws.proofs.Scalars.{point_laws}
use Rattle.curve_laws.proofs.LocalRingLaws.{local_ring_law}
use Rattle.curve_laws.proofs.SplitLaws.{none_law}
use Rattle.curve_laws.proofs.StatedLaws.{sum_poly}
use Rattle.curve_laws.proofs.DeltaLaws.{multiple_poly, has_independent}
use Rattle.curve_laws.proofs.CountingLaws.{has_independent_up}

module _ (A : CurveData) (c : IsFinite A) where
  zero_in : (f : Fraction) → InA A (multiple_of A 0 f)
  zero_in f = (
    [],
    poly_none A.prime A.variables,
    subst (λ a. InIdeal A.prime A.variables A.ideal (sub A.prime (mul A.prime a (denominator_power A 0)) (mul A.prime [] (denominator_power A f.exponent)))) (sym (multiple_zero A.prime f.numerator)) (in_none A.prime A.variables A.ideal),
  )

  poly : (cs : List ℕ) (fs : List Fraction) → All (IsFraction A) fs → IsFraction A (Delta.combination A cs fs)
  poly [] fs h = poly_none A.prime A.variables
  poly (e ∷ cs) [] h = poly_none A.prime A.variables
  poly (e ∷ cs) (f ∷ fs) h =
      sum_poly A c (multiple_of A e f) (Delta.combination A cs fs) (multiple_poly A c e f (All-head (IsFraction A) f fs h)) (poly cs fs (All-tail (IsFraction A) f fs h))

  tail : (f : Fraction) (fs : List Fraction) → All (IsFraction A) (f ∷ fs) → AreIndependent A (f ∷ fs) → AreIndependent A fs
  tail f fs h i cs a l k =
      let hf = All-head (IsFraction A) f fs h in
      let z : Fraction = multiple_of A 0 f in
      let g : Fraction = Delta.combination A cs fs in
      let zp : IsFraction A z = multiple_poly A c 0 f hf in
      let gp : IsFraction A g = poly cs fs (All-tail (IsFraction A) f fs h) in
      let ring = local_ring_law A c [] (All-nil (ArePolys A)) in
      let s : LocalAt A [] (sum_of A z g) = ring.sum z g zp gp ((none_law A c z zp).1 (zero_in f)) ((none_law A c g gp).1 k) in
      let all = i (0 ∷ cs) (All-cons (λ e. e < A.prime) 0 cs (let b = high A c.curve in omega arith) a) (ap suc l) ((none_law A c (sum_of A z g) (sum_poly A c z g zp gp)).0 s) in
      All-tail (λ e. e ≡ 0) 0 cs all

  fewer : (P : List (List Term)) (r : ℕ) → HasIndependent A P (suc r) → HasIndependent A P r
  fewer P r w = go w.fractions w.as_many w.are_fractions w.local w.independent
    where
      go : (fs : List Fraction) → length fs ≡ suc r → All (IsFraction A) fs → All (Local A P) fs → AreIndependent A fs → HasIndependent A P r
      go [] e h l i = absurd (omega arith)
      go (f ∷ fs) e h l i = record {
        fractions = fs;
        as_many = let k : length (f ∷ fs) ≡ suc r = e in omega arith;
        are_fractions = All-tail (IsFraction A) f fs h;
        local = All-tail (Local A P) f fs l;
        independent = tail f fs h i;
      }

  fewer_by : (P : List (List Term)) (r k : ℕ) → HasIndependent A P (k + r) → HasIndependent A P r
  fewer_by P r zero w = let e : 0 + r ≡ r = omega arith in subst (HasIndependent A P) e w
  fewer_by P r (suc k) w = let e : suc k + r ≡ suc (k + r) = omega arith in fewer_by P r k (fewer P (k + r) (subst (HasIndependent A P) e w))

pub fewer_law : FewerAreIndependent
fewer_law A c P r k w = fewer_by A c P r k w

pub unique_delta_law : DeltaIsUnique
unique_delta_law A c P q r s h g =
    (point_laws A c).unique (lift A.prime A.variables P q) r s
    (has_independent_up A c P q r h.reached, λ b. h.no_more (has_independent A c P q (suc r) b))
    (has_independent_up A c P q s g.reached, λ b. g.no_more (has_independent A c P q (suc s) b))
