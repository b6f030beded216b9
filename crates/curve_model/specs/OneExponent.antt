-- Fractions over one power of d: sums by numerators, independence and bases modulo A.
use Rattle.std.specs.Prelude.{◌≡◌, ◌↔◌, ℕ, suc, ◌<◌, List, ◌∷◌, map, length, All}
use Rattle.polys.specs.declared.term.Term.{Term}
use Rattle.polys.specs.Terms.{IsPoly, add, sub, mul}
use Rattle.polys.specs.Ideal.{InIdeal, IsSpanned, number_combination}
use Rattle.polys.specs.Curve.{CurveData}
use Rattle.curve_model.specs.Fraction.{Fraction, IsFraction, AreEqual, EqualsOver, InA, denominator_power, over, sum_of}
use Rattle.curve_model.specs.Closure.{InModule}
use Rattle.curve_model.specs.Delta.{combination, AreIndependent}
use Rattle.curve_model.specs.Laws.{IsFinite, ArePolys}
use Rattle.curve_model.specs.Enlarging.{IsBasisModuloA}

-- the polynomials of a list, each over d^K
abbrev pub all_over : ℕ → List (List Term) → List Fraction
all_over K us = map (λ u. over u K) us

-- modulo I and d^K
abbrev pub InPower : CurveData → ℕ → List Term → Type 0
InPower A K f = InIdeal A.prime A.variables (denominator_power A K ∷ A.ideal) f

-- fractions over one power of d are as their numerators
pub record AreAsNumerators (A : CurveData) : Type 0 where
  -- a over d^K and b over d^K are equal where a - b is in I
  pub equal : (K : ℕ) (a b : List Term) → IsPoly A.prime A.variables a → IsPoly A.prime A.variables b
      → AreEqual A (over a K) (over b K) ↔ InIdeal A.prime A.variables A.ideal (sub A.prime a b)
  -- their sum is a + b over d^K
  pub sum : (K : ℕ) (a b : List Term) → IsPoly A.prime A.variables a → IsPoly A.prime A.variables b
      → AreEqual A (sum_of A (over a K) (over b K)) (over (add A.prime a b) K)
  -- a combination of them is that of the numerators over d^K
  pub combination : (K : ℕ) (cs : List ℕ) (us : List (List Term)) → ArePolys A us
      → AreEqual A (combination A cs (all_over K us)) (over (number_combination A.prime cs us) K)
  -- b over d^K is in A where b is in the ideal of I and d^K
  pub whole : (K : ℕ) (b : List Term) → IsPoly A.prime A.variables b → InA A (over b K) ↔ InPower A K b
  -- b over d^K is d b over d^(K+1)
  pub next : (K : ℕ) (b : List Term) → IsPoly A.prime A.variables b → AreEqual A (over b K) (over (mul A.prime A.denominator b) (suc K))
  -- what equals some b over d^K equals some b over d^(K+1)
  pub raised : (K : ℕ) (f : Fraction) → IsFraction A f → EqualsOver A K f → EqualsOver A (suc K) f

abbrev pub OneExponent : Type 0
OneExponent = (A : CurveData) → IsFinite A → AreAsNumerators A

-- a combination of us by residues is in the ideal of I and d^K only where every residue is 0
abbrev pub AreIndependentModulo : CurveData → ℕ → List (List Term) → Type 0
AreIndependentModulo A K us =
    (cs : List ℕ) → All (λ c. c < A.prime) cs → length cs ≡ length us → InPower A K (number_combination A.prime cs us) → All (λ c. c ≡ 0) cs

-- fractions over d^K are independent modulo A exactly where their numerators are independent modulo I and d^K
abbrev pub NumeratorsDecideIndependence : Type 0
NumeratorsDecideIndependence =
    (A : CurveData) → IsFinite A → (K : ℕ) (us : List (List Term)) → ArePolys A us → AreIndependent A (all_over K us) ↔ AreIndependentModulo A K us

-- us are in the ideal of L, independent modulo I and d^K, and span that ideal modulo I and d^K
pub record IsNumeratorBasis (A : CurveData) (K : ℕ) (L us : List (List Term)) : Type 0 where
  pub members : All (InIdeal A.prime A.variables L) us
  pub independent : AreIndependentModulo A K us
  pub spans : (b : List Term) → InIdeal A.prime A.variables L b → IsSpanned A.prime A.variables (denominator_power A K ∷ A.ideal) us b

-- then us over d^K are a basis modulo A of the module of L over d^K
abbrev pub NumeratorsAreBasis : Type 0
NumeratorsAreBasis =
    (A : CurveData) → IsFinite A → (K : ℕ) (L us : List (List Term)) → ArePolys A L → IsNumeratorBasis A K L us
    → IsBasisModuloA A (InModule A K L) (all_over K us)
