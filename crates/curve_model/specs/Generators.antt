-- What is said of a curve depends on the ideal alone, and not on its generators.
use Rattle.std.specs.Prelude.{ℕ, List, All}
use Rattle.polys.specs.declared.term.Term.{Term}
use Rattle.polys.specs.Ideal.{InIdeal}
use Rattle.polys.specs.Curve.{CurveData}
use Rattle.curve_model.specs.Fraction.{Fraction, InA}
use Rattle.curve_model.specs.Integral.{Integral}
use Rattle.curve_model.specs.Local.{Local, LocalAt}
use Rattle.curve_model.specs.Point.{IsPoint}
use Rattle.curve_model.specs.Closure.{Closure}
use Rattle.curve_model.specs.Delta.{HasDelta}
use Rattle.curve_model.specs.Laws.{IsRegular, ArePolys}

-- the same curve with other generators
abbrev pub with_ideal : CurveData → List (List Term) → CurveData
with_ideal A J = record { prime = A.prime; variables = A.variables; ideal = J; denominator = A.denominator }

-- what is said of fractions, points, delta and closures over A holds over B
pub record Agree (A B : CurveData) : Type 0 where
  pub integral : (f : Fraction) → Integral A f → Integral B f
  pub in_a : (f : Fraction) → InA A f → InA B f
  pub local : (P : List (List Term)) (f : Fraction) → Local A P f → Local B P f
  pub local_at : (S : List (List (List Term))) (f : Fraction) → LocalAt A S f → LocalAt B S f
  pub point : (P : List (List Term)) → IsPoint A P → IsPoint B P
  pub delta : (P : List (List Term)) (r : ℕ) → HasDelta A P r → HasDelta B P r
  pub closure : (S : List (List (List Term))) (K : ℕ) (Q : List (List Term)) → Closure A S K Q → Closure B S K Q

-- where J generates the ideal of A, what holds over the generators of A holds over J
abbrev pub OneIdealOneClosure : Type 0
OneIdealOneClosure =
    (A : CurveData) → IsRegular A → (J : List (List Term)) → ArePolys A J → All (InIdeal A.prime A.variables J) A.ideal → All (InIdeal A.prime A.variables A.ideal) J
    → Agree A (with_ideal A J)
