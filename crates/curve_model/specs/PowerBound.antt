-- The deltas of the points bound the power of the closure.
use Rattle.std.specs.Prelude.{ℕ, ◌≤◌, List, All}
use Rattle.polys.specs.declared.term.Term.{Term}
use Rattle.polys.specs.Curve.{CurveData}
use Rattle.curve_model.specs.Closure.{Closure}
use Rattle.curve_model.specs.Delta.{HasDelta}
use Rattle.curve_model.specs.Laws.{IsFinite, ArePoints}

-- delta of P is at most r
abbrev pub HasDeltaUpTo : CurveData → ℕ → List (List Term) → Type 0
HasDeltaUpTo A r P = (s : ℕ) × (s ≤ r) × HasDelta A P s

-- where each point of S has a delta of at most r, so has the power of the closure at S
abbrev pub DeltasBoundClosure : Type 0
DeltasBoundClosure =
    (A : CurveData) → IsFinite A → (S : List (List (List Term))) → ArePoints A S → (r : ℕ) → All (HasDeltaUpTo A r) S
    → (K : ℕ) (Q : List (List Term)) → Closure A S K Q → K ≤ r
