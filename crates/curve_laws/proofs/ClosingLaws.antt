-- A closure has exactly the local fractions, and there is one at most.
use Rattle.std.proofs.Common.{◌≡◌, ℕ, ◌<◌, List, All, sym, subst, arith}
use Rattle.polys.specs.declared.term.Term.{Term}
use Rattle.polys.specs.Terms.{IsPoly}
use Rattle.polys.specs.Ideal.{InIdeal}
use Rattle.polys.specs.Curve.{CurveData}
use Rattle.polys.proofs.Affine.{positive}
use Rattle.ideal_laws.proofs.Ideals.{in_poly}
use Rattle.ideal_laws.proofs.Unique.{unique_law}
use Rattle.curve_model.specs.Fraction.{Fraction, IsFraction, AreEqual, over}
use Rattle.curve_model.specs.Local.{LocalAt}
use Rattle.curve_model.specs.Closure.{Closure, InModule}
use Rattle.curve_model.specs.Laws.{IsFinite, ArePolys}
use Rattle.curve_model.specs.Closing.{ClosureIsExact, ClosureIsIntegral, ClosureIsUnique}
use Rattle.curve_laws.proofs.Base.{high}
use Rattle.curve_laws.proofs.Regulars.{turn_equal}
use Rattle.curve_laws.proofs.LocalRingLaws.{local_ring_law}
use Rattle.curve_laws.proofs.ManyPoints.{polys_of_points}
use Rattle.curve_laws.proofs.SplitLaws.{all_points_law}

module _ (A : CurveData) (c : IsFinite A) (S : List (List (List Term))) (K : ℕ) (Q : List (List Term)) (w : Closure A S K Q) where
  numerator_poly : (b : List Term) → InIdeal A.prime A.variables Q b → IsPoly A.prime A.variables b
  numerator_poly b i = in_poly A.prime A.variables Q b (positive A.prime (high A c.curve)) w.basis.reduced.polys i

  module _ (q : All (ArePolys A) S) (f : Fraction) (h : IsFraction A f) where
    respects : (g : Fraction) → IsFraction A g → AreEqual A f g → LocalAt A S f → LocalAt A S g
    respects g k e = (local_ring_law A c S q).respects f g h k e

    from_module : InModule A K Q f → LocalAt A S f
    from_module m =
        let b = numerator_poly m.0 m.1 in
        (local_ring_law A c S q).respects (over m.0 K) f b h (turn_equal A c.curve f (over m.0 K) h b m.2) ((w.basis.exact m.0 b).0 m.1)

    to_module : LocalAt A S f → InModule A K Q f
    to_module l = let s = w.suffices f h l in (s.0, (w.basis.exact s.0 s.1).1 (respects (over s.0 K) s.1 s.2 l), s.2)

pub exact_law : ClosureIsExact
exact_law A c S q K Q w f h = (from_module A c S K Q w q f h, to_module A c S K Q w q f h)

pub integral_law : ClosureIsIntegral
integral_law A c S points all K Q w f h =
    let e = exact_law A c S (polys_of_points A c S points) K Q w f h in
    let i = all_points_law A c S points all f h in
    ((λ m. i.1 (e.0 m)), λ l. e.1 (i.0 l))

pub unique_closure_law : ClosureIsUnique
unique_closure_law A c S K L Q R v w = (
  power,
  unique_law A.prime A.variables Q R c.curve.prime v.basis.reduced w.basis.reduced (λ f h. (
    (λ i. (w.basis.exact f h).1 (subst (λ k. LocalAt A S (over f k)) power ((v.basis.exact f h).0 i))),
    λ i. (v.basis.exact f h).1 (subst (λ k. LocalAt A S (over f k)) (sym power) ((w.basis.exact f h).0 i)),
  )),
)
  where
    power : K ≡ L
    power =
        let a : K < L → ⊥ = λ l. w.least K l v.suffices in
        let b : L < K → ⊥ = λ l. v.least L l w.suffices in
        omega arith
