-- The deltas of some points under a limit.
use Rattle.std.specs.Prelude.{◌≡◌, ℕ, ◌≤◌, List, ◌∷◌, ◌++◌, All}
use Rattle.polys.specs.declared.term.Term.{Term}
use Rattle.polys.specs.Curve.{CurveData}
use Rattle.curve_model.specs.Delta.{HasDelta, IsDeltaAbove}
use Rattle.curve_model.specs.Laws.{IsFinite}

-- delta is at most L at each of the points
abbrev pub IsWithin : CurveData → ℕ → List (List (List Term)) → Type 0
IsWithin A L S = All (λ P. (r : ℕ) × HasDelta A P r × (r ≤ L)) S

-- P is the first of the points at which delta is above L. For y^2 over F_7 with the denominator x the one point is (y, x), and no L
-- is large enough
pub record IsFirstAbove (A : CurveData) (L : ℕ) (S : List (List (List Term))) (P : List (List Term)) : Type 0 where
  pub before : List (List (List Term))
  pub after : List (List (List Term))
  pub place : S ≡ before ++ P ∷ after
  pub within : IsWithin A L before
  pub above : IsDeltaAbove A P L

-- not both is so
abbrev pub DeltasDecide : Type 0
DeltasDecide =
    (A : CurveData) → IsFinite A → (L : ℕ) (S : List (List (List Term))) (P : List (List Term)) → IsWithin A L S → IsFirstAbove A L S P → ⊥
