-- What is said of a curve depends on the ideal alone.
use Rattle.std.proofs.Common.{ℕ, suc, ◌<◌, List, [], ◌∷◌, arith}
use Rattle.std.specs.List.{All}
use Rattle.std.proofs.lemmas.List.Elements.{All-nil, All-cons, All-head, All-tail}
use Rattle.polys.specs.declared.term.Term.{Term}
use Rattle.polys.specs.Terms.{IsPoly}
use Rattle.polys.specs.Ideal.{InIdeal}
use Rattle.polys.specs.Curve.{CurveData}
use Rattle.polys.proofs.Affine.{poly_power}
use Rattle.ideal_laws.proofs.Ideals.{in_larger, in_head, in_more}
use Rattle.curve_model.specs.Fraction.{Fraction, InA, EqualsOver, denominator_power}
use Rattle.curve_model.specs.Integral.{Integral}
use Rattle.curve_model.specs.Local.{Local, LocalAt, TakesIntoA}
use Rattle.curve_model.specs.Point.{IsPoint}
use Rattle.curve_model.specs.Closure.{Closure}
use Rattle.curve_model.specs.Delta as Delta
use Rattle.curve_model.specs.Delta.{HasIndependent, HasDelta}
use Rattle.curve_model.specs.Generators.{with_ideal, Agree, OneIdealOneClosure}
use Rattle.prime_field.proofs.Table.{above_one}

module _ (A : CurveData) (high : 1 < A.prime) (dp : IsPoly A.prime A.variables A.denominator) (J : List (List Term)) (up : All (InIdeal A.prime A.variables J) A.ideal) where
  abbrev B : CurveData
  B = with_ideal A J

  pos : 0 < A.prime
  pos = omega arith

  in_up : (f : List Term) → InIdeal A.prime A.variables A.ideal f → InIdeal A.prime A.variables J f
  in_up f i = in_larger A.prime A.variables A.ideal J f pos up i

  more : (g : List Term) (gs : List (List Term)) → All (InIdeal A.prime A.variables J) gs → All (InIdeal A.prime A.variables (g ∷ J)) gs
  more g [] h = All-nil (InIdeal A.prime A.variables (g ∷ J))
  more g (x ∷ gs) h = All-cons (InIdeal A.prime A.variables (g ∷ J)) x gs (in_more A.prime A.variables g J x (All-head (InIdeal A.prime A.variables J) x gs h)) (more g gs (All-tail (InIdeal A.prime A.variables J) x gs h))

  takes_up : (h : List Term) (f : Fraction) → TakesIntoA A h f → TakesIntoA B h f
  takes_up h f i =
      let e = denominator_power A f.exponent in
      in_larger A.prime A.variables (e ∷ A.ideal) (e ∷ J) _ pos
      (All-cons (InIdeal A.prime A.variables (e ∷ J)) e A.ideal (in_head A.prime A.variables e J high (poly_power A.prime A.variables A.denominator f.exponent high dp)) (more e A.ideal up)) i

  integral_up : (f : Fraction) → Integral A f → Integral B f
  integral_up f w = record { coefficients = w.coefficients; polys = w.polys; some = w.some; equation = in_up _ w.equation }

  over_up : (k : ℕ) (f : Fraction) → EqualsOver A k f → EqualsOver B k f
  over_up k f w = (w.0, w.1, in_up _ w.2)

  local_up : (P : List (List Term)) (f : Fraction) → Local A P f → Local B P f
  local_up P f w = record { integral = integral_up f w.integral; m = w.m; takes = λ l h. takes_up _ f (w.takes l h) }

  local_at_up : (S : List (List (List Term))) (f : Fraction) → LocalAt A S f → LocalAt B S f
  local_at_up S f w = record { integral = integral_up f w.integral; m = w.m; takes = λ l h. takes_up _ f (w.takes l h) }

  all_local_up : (P : List (List Term)) (fs : List Fraction) → All (Local A P) fs → All (Local B P) fs
  all_local_up P [] h = All-nil (Local B P)
  all_local_up P (f ∷ fs) h = All-cons (Local B P) f fs (local_up P f (All-head (Local A P) f fs h)) (all_local_up P fs (All-tail (Local A P) f fs h))

module _ (A : CurveData) (high : 1 < A.prime) (dp : IsPoly A.prime A.variables A.denominator) (J : List (List Term)) (up : All (InIdeal A.prime A.variables J) A.ideal)
    (down : All (InIdeal A.prime A.variables A.ideal) J) where
  abbrev C : CurveData
  C = with_ideal A J

  in_a_up : (f : Fraction) → InA A f → InA C f
  in_a_up f w = over_up A high dp J up 0 f w

  in_a_down : (f : Fraction) → InA C f → InA A f
  in_a_down f w = over_up C high dp A.ideal down 0 f w

  local_at_down : (S : List (List (List Term))) (f : Fraction) → LocalAt C S f → LocalAt A S f
  local_at_down S f w = local_at_up C high dp A.ideal down S f w

  holds : (P gs : List (List Term)) → All (InIdeal A.prime A.variables P) A.ideal → All (InIdeal A.prime A.variables A.ideal) gs → All (InIdeal A.prime A.variables P) gs
  holds P [] h k = All-nil (InIdeal A.prime A.variables P)
  holds P (g ∷ gs) h k =
      All-cons (InIdeal A.prime A.variables P) g gs (in_larger A.prime A.variables A.ideal P g (omega arith) h (All-head (InIdeal A.prime A.variables A.ideal) g gs k))
      (holds P gs h (All-tail (InIdeal A.prime A.variables A.ideal) g gs k))

  point_up : (P : List (List Term)) → IsPoint A P → IsPoint C P
  point_up P w = record { reduced = w.reduced; holds_ideal = holds P J w.holds_ideal down; holds_denominator = w.holds_denominator; proper = w.proper; maximal = w.maximal }

  independent_up : (P : List (List Term)) (r : ℕ) → HasIndependent A P r → HasIndependent C P r
  independent_up P r w = record {
    fractions = w.fractions;
    as_many = w.as_many;
    are_fractions = w.are_fractions;
    local = all_local_up A high dp J up P w.fractions w.local;
    independent = λ cs h l k. w.independent cs h l (in_a_down (Delta.combination C cs w.fractions) k);
  }

module _ (A : CurveData) (high : 1 < A.prime) (dp : IsPoly A.prime A.variables A.denominator) (J : List (List Term)) (up : All (InIdeal A.prime A.variables J) A.ideal)
    (down : All (InIdeal A.prime A.variables A.ideal) J) where
  abbrev D : CurveData
  D = with_ideal A J

  delta_up : (P : List (List Term)) (r : ℕ) → HasDelta A P r → HasDelta D P r
  delta_up P r w = record { reached = independent_up A high dp J up down P r w.reached; no_more = λ k. w.no_more (independent_up D high dp A.ideal down up P (suc r) k) }

  closure_up : (S : List (List (List Term))) (K : ℕ) (Q : List (List Term)) → Closure A S K Q → Closure D S K Q
  closure_up S K Q w = record {
    suffices = λ f h l. over_up A high dp J up K f (w.suffices f h (local_at_down A high dp J up down S f l));
    least = λ L l s. w.least L l (λ f h k. over_up D high dp A.ideal down L f (s f h (local_at_up A high dp J up S f k)));
    basis = record {
      reduced = w.basis.reduced;
      exact = λ f h. ((λ i. local_at_up A high dp J up S _ ((w.basis.exact f h).0 i)), λ l. (w.basis.exact f h).1 (local_at_down A high dp J up down S _ l));
    };
  }

  agree : Agree A D
  agree = record {
    integral = integral_up A high dp J up;
    in_a = in_a_up A high dp J up down;
    local = local_up A high dp J up;
    local_at = local_at_up A high dp J up;
    point = point_up A high dp J up down;
    delta = delta_up;
    closure = closure_up;
  }

pub one_ideal_law : OneIdealOneClosure
one_ideal_law A c J q up down = agree A (above_one A.prime c.prime) c.denominator J up down
