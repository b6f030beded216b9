-- When a text is the answer to a problem with a given denominator.
use Rattle.std.specs.Prelude.{ℕ, ◌≡◌, ◌≤◌, ◌==◌, not, List, [], ◌∷◌, map, length, filter, Option, None, Some, All}
use Rattle.polys.specs.declared.term.Term.{Term}
use Rattle.polys.specs.Curve.{HasDimModulo}
use Rattle.curve_model.specs.Point.{HasDegree}
use Rattle.curve_model.specs.Delta.{HasDelta}
use Rattle.curve_model.specs.Closure.{Closure}
use Rattle.problem.specs.Problem.{ProblemData, curve_of}
use Rattle.norm_text.specs.Named.{IsNamedList}
use Rattle.norm_text.specs.Answer.{PointData, AnswerData, answer_text}

-- the number that version 2 tells: a problem without `at` statements has version 1
abbrev pub named_number : List (List (List Term)) → ℕ → Option ℕ
named_number [] n = None
named_number (statement ∷ rest) n = Some n

-- the named points with their degrees and deltas, each at most 64
pub record ArePointsOf (problem : ProblemData) (d : List Term) (points : List PointData) : Type 0 where
  pub named : IsNamedList problem (curve_of problem d) (map (λ P. P.basis) points)
  pub degrees : All (λ P. HasDegree (curve_of problem d) P.basis P.degree) points
  pub deltas : All (λ P. HasDelta (curve_of problem d) P.basis P.delta) points
  pub at_most_64 : All (λ P. P.delta ≤ 64) points

-- what the answer says is so: of the named points those with a delta above 0 have a line, and the power and the numerators
-- are those of the fractions that are local at the named points
pub record IsAnswer (problem : ProblemData) (d : List Term) (a : AnswerData) : Type 0 where
  pub points : List PointData
  pub are_points : ArePointsOf problem d points
  pub prime : a.prime ≡ problem.prime
  pub letters : a.letters ≡ problem.letters
  pub denominator : a.denominator ≡ d
  pub dimension : HasDimModulo (curve_of problem d) a.dimension
  pub named : a.named ≡ named_number problem.at (length points)
  pub lines : a.points ≡ filter (λ P. not (P.delta == 0)) points
  pub closure : Closure (curve_of problem d) (map (λ P. P.basis) points) a.power a.numerators

-- the text is the answer to the problem with the denominator d
abbrev pub IsAnswerText : ProblemData → List Term → List ℕ → Type 0
IsAnswerText problem d text = (a : AnswerData) × IsAnswer problem d a × (text ≡ answer_text a)
