-- The fractions that take a module into itself, by its generators.
use Rattle.std.specs.Prelude.{◌↔◌, ℕ, suc, ◌+◌, List, [], All, Contains}
use Rattle.polys.specs.declared.term.Term.{Term}
use Rattle.polys.specs.Terms.{IsPoly, mul}
use Rattle.polys.specs.Ideal.{InIdeal}
use Rattle.polys.specs.Curve.{CurveData}
use Rattle.curve_model.specs.Fraction.{Fraction, IsFraction, AreEqual, denominator_power, over, sum_of, product_of}
use Rattle.curve_model.specs.Closure.{InModule}
use Rattle.curve_model.specs.Laws.{IsFinite, ArePolys}
use Rattle.over_laws.specs.Over.{TakesIntoItself}

-- h is some b over d^(e+1), and b times each generator over d^(2e+1) is in the module
pub record TakesGenerators (A : CurveData) (e : ℕ) (H : List (List Term)) (h : Fraction) : Type 0 where
  pub numerator : List Term
  pub poly : IsPoly A.prime A.variables numerator
  pub equal : AreEqual A h (over numerator (suc e))
  pub takes : All (λ v. InModule A e H (over (mul A.prime numerator v) (suc e + e))) H

-- where d^(e+1) is in the ideal of H, h takes the fractions over d^e with numerators in it into themselves exactly where it
-- takes the generators there
abbrev pub GeneratorsDecideEndomorphisms : Type 0
GeneratorsDecideEndomorphisms =
    (A : CurveData) → IsFinite A → (e : ℕ) (H : List (List Term)) → ArePolys A H → InIdeal A.prime A.variables H (denominator_power A (suc e))
    → (h : Fraction) → IsFraction A h → TakesIntoItself A (InModule A e H) h ↔ TakesGenerators A e H h

-- the finite sums of multiples of members of a list by members of B
pub data IsSumOfMultiples (A : CurveData) (B : Fraction → Type 0) (js : List Fraction) : Fraction → Type 0 where
  no_multiple : (f : Fraction) → IsFraction A f → AreEqual A f (over [] 0) → IsSumOfMultiples A B js f
  one_multiple : (f b j g : Fraction) → IsFraction A f → IsFraction A b → IsFraction A j → IsFraction A g → B b → Contains js j → IsSumOfMultiples A B js g
      → AreEqual A f (sum_of A (product_of A b j) g) → IsSumOfMultiples A B js f

-- where a module is closed under B and generated over B by the list, h takes it into itself exactly where it takes the list there
abbrev pub GeneratorsOverRingDecide : Type 0
GeneratorsOverRingDecide =
    (A : CurveData) → IsFinite A → (K : ℕ) (L : List (List Term)) → ArePolys A L → (e : ℕ) (H : List (List Term)) → ArePolys A H
    → ((b f : Fraction) → IsFraction A b → IsFraction A f → InModule A K L b → InModule A e H f → InModule A e H (product_of A b f))
    → (js : List Fraction) → All (IsFraction A) js → All (InModule A e H) js
    → ((f : Fraction) → IsFraction A f → InModule A e H f → IsSumOfMultiples A (InModule A K L) js f)
    → (h : Fraction) → IsFraction A h → TakesIntoItself A (InModule A e H) h ↔ All (λ j. InModule A e H (product_of A h j)) js
