-- Fractions that are local at a point, or at each point of a list.
use Rattle.std.specs.Prelude.{◌≡◌, ℕ, List, ◌∷◌, map, length, All, Contains}
use Rattle.std.specs.List.{AllZip}
use Rattle.polys.specs.declared.term.Term.{Term}
use Rattle.polys.specs.Terms.{mul, product}
use Rattle.polys.specs.Ideal.{InIdeal}
use Rattle.polys.specs.Curve.{CurveData}
use Rattle.curve_model.specs.Fraction.{Fraction, denominator_power}
use Rattle.curve_model.specs.Integral.{Integral}

-- l is m members of P, repeats allowed
pub record AreMembers (m : ℕ) (P l : List (List Term)) : Type 0 where
  pub as_many : length l ≡ m
  pub members : All (Contains P) l

-- h times the numerator is in the ideal of I with d^k
abbrev pub TakesIntoA : CurveData → List Term → Fraction → Type 0
TakesIntoA A h f = InIdeal A.prime A.variables (denominator_power A f.exponent ∷ A.ideal) (mul A.prime h f.numerator)

-- f is integral, and every product of some m members of P takes it into A
pub record Local (A : CurveData) (P : List (List Term)) (f : Fraction) : Type 0 where
  pub integral : Integral A f
  pub m : ℕ
  pub takes : (l : List (List Term)) → AreMembers m P l → TakesIntoA A (product A.prime l) f

-- f is integral, and every product that has some m members of each P of S takes it into A
pub record LocalAt (A : CurveData) (S : List (List (List Term))) (f : Fraction) : Type 0 where
  pub integral : Integral A f
  pub m : ℕ
  pub takes : (ls : List (List (List Term))) → AllZip (AreMembers m) S ls → TakesIntoA A (product A.prime (map (product A.prime) ls)) f
