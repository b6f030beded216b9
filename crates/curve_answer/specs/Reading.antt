-- What is read of a book in which all work is done.
use Rattle.std.specs.Prelude.{◌≡◌, ◌==◌, not, ℕ, ◌≤◌, List, map, filter, All, Contains, Option, None, Some}
use Rattle.polys.specs.declared.term.Term.{Term}
use Rattle.polys.specs.Curve.{CurveData}
use Rattle.curve_model.specs.Delta.{HasDelta, IsDeltaAbove}
use Rattle.curve_model.specs.Point.{basis_of}
use Rattle.curve_model.specs.declared.point.Point.{Point}
use Rattle.norm_text.specs.declared.answer.PointLine.{PointLine}
use Rattle.curve_answer.specs.Deltas.{IsFirstAbove}
use Rattle.curve_answer.specs.declared.reading.Lines.{Lines}
use Rattle.curve_answer.specs.declared.reading.Lines.TheVariants as lines

-- delta of P is the number, which is at most L; or it is above L
abbrev pub IsDeltaOf : CurveData → List (List Term) → ℕ → Option ℕ → Type 0
IsDeltaOf A P L (Some r) = HasDelta A P r × (r ≤ L)
IsDeltaOf A P L None = IsDeltaAbove A P L

-- the line tells delta of its point, which is at most L
abbrev pub IsLine : CurveData → ℕ → PointLine → Type 0
IsLine A L line = HasDelta A (basis_of line.point) line.delta × (line.delta ≤ L)

-- one line for each of the points, in their order
pub record AreLinesOf (A : CurveData) (L : ℕ) (Ps : List Point) (lines : List PointLine) : Type 0 where
  pub points : map (λ line. line.point) lines ≡ Ps
  pub deltas : All (IsLine A L) lines

-- the lines of all points, or the first point at which delta is above L
abbrev pub AreRead : CurveData → ℕ → List Point → Lines → Type 0
AreRead A L points (lines.Within lines) = AreLinesOf A L points lines
AreRead A L points (lines.Above point) = Contains points point × IsFirstAbove A L (map basis_of points) (basis_of point)

-- those with a delta above 0
abbrev pub with_delta : List PointLine → List PointLine
with_delta lines = filter (λ line. not (line.delta == 0)) lines
