-- A point has one delta, and independent local fractions are there in any smaller number.
use Rattle.std.specs.Prelude.{◌≡◌, ℕ, ◌+◌, List}
use Rattle.polys.specs.declared.term.Term.{Term}
use Rattle.polys.specs.Curve.{CurveData}
use Rattle.curve_model.specs.Delta.{HasDelta, HasIndependent}
use Rattle.curve_model.specs.Laws.{IsFinite, ArePolys}

-- two numbers that are delta of P are equal
abbrev pub DeltaIsUnique : Type 0
DeltaIsUnique =
    (A : CurveData) → IsFinite A → (P : List (List Term)) → ArePolys A P → (r s : ℕ) → HasDelta A P r → HasDelta A P s → r ≡ s

-- where some k + r are independent, some r are
abbrev pub FewerAreIndependent : Type 0
FewerAreIndependent =
    (A : CurveData) → IsFinite A → (P : List (List Term)) → (r k : ℕ) → HasIndependent A P (k + r) → HasIndependent A P r
