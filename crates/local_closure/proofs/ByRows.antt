-- The closure by rows.
use Rattle.std.proofs.Common.{◌≡◌, ◌↔◌, ℕ, List, sym, ◌∙◌, subst}
use Rattle.monomials.specs.Mono.{Monomial}
use Rattle.polys.specs.declared.curve.Curve.{Curve}
use Rattle.polys.specs.declared.term.Term.{Term}
use Rattle.polys.specs.Curve.{CurveData, data_of}
use Rattle.polys.specs.Reduced.{IsReducedBasis}
use Rattle.curve_model.specs.Closure.{Closure}
use Rattle.curve_model.specs.Fraction.{Fraction, IsFraction, over}
use Rattle.curve_model.specs.Laws.{IsFinite}
use Rattle.curve_model.specs.Local.{LocalAt}
use Rattle.row_space.specs.Subspace.{Subspace}
use Rattle.digit_laws.specs.Digits.{AreCornersOf, IsIdealSpace}
use Rattle.digit_laws.proofs.Corners.{corners_law}
use Rattle.digit_space.specs.Model.{DigitData, IsDigitSpace}
use Rattle.corner_basis.specs.Fronts.{IsFrontIdeal, IsFrontIn}
use Rattle.over_laws.specs.Over.{OverData, InOver, HasRows, HaveSameFractions, IsLeastPower}
use Rattle.over_module.proofs.Facts.{finite}
use Rattle.over_module.proofs.DepthRows.{has_of, of_has}
use Rattle.local_closure.specs.Closing.{HoldsLocalAt}

module _ (g : DigitData) (s : IsDigitSpace g) (q : OverData) (h : HasRows q) where
  abbrev at : Curve → OverData
  at C = record { curve = C; dimension = q.dimension; power = q.power; rows = q.rows }

  ideal_here : HasRows (at g.curve) → IsFrontIdeal g q.power q.rows
  ideal_here w = subst (λ ms. IsIdealSpace (data_of g.curve) ms q.power q.rows) (corners_law (data_of g.curve) (finite g s) w.corners g.basis w.known s.corners) w.ideal

  -- the rows of a module are an ideal in the digits of its curve
  pub front_ideal : g.curve ≡ q.curve → IsFrontIdeal g q.power q.rows
  front_ideal e = ideal_here (subst (λ C. HasRows (at C)) (sym e) h)

  module _ (S : List (List (List Term))) (Q : List (List Term)) (b : IsReducedBasis g.curve.prime g.curve.variables (IsFrontIn g q.power q.rows) Q) where
    closes_here : ((f : Fraction) → IsFraction (data_of g.curve) f → InOver (at g.curve) f ↔ LocalAt (data_of g.curve) S f) → IsLeastPower (at g.curve) → Closure (data_of g.curve) S q.power Q
    closes_here holds least = record {
      suffices = λ f hf l. let r = (holds f hf).1 l in (r.numerator, r.poly, r.equal);
      least = λ L l more. least L l (λ f hf i. more f hf ((holds f hf).0 i));
      basis = record {
        reduced = b.reduced;
        exact = λ f hf. (
          (λ i. (holds (over f q.power) hf).0 (of_has (data_of g.curve) (finite g s) g.basis s.corners q.power q.rows f hf ((b.exact f hf).0 i))),
          λ l. (b.exact f hf).1 (has_of (data_of g.curve) (finite g s) g.basis s.corners q.power q.rows f hf ((holds (over f q.power) hf).1 l)),
        );
      };
    }

    pub closes : (C : Curve) → g.curve ≡ C → ((f : Fraction) → IsFraction (data_of C) f → InOver (at C) f ↔ LocalAt (data_of C) S f) → IsLeastPower (at C) → Closure (data_of C) S q.power Q
    closes C e =
        subst (λ C. ((f : Fraction) → IsFraction (data_of C) f → InOver (at C) f ↔ LocalAt (data_of C) S f) → IsLeastPower (at C) → Closure (data_of C) S q.power Q) e closes_here
