-- What a problem with a denominator has under a limit of delta.
use Rattle.std.specs.Prelude.{◌≡◌, ◌↔◌, ℕ, List, ◌++◌, map, codes}
use Rattle.polys.specs.declared.term.Term.{Term}
use Rattle.polys.specs.Curve.{HasDimModulo, data_of}
use Rattle.poly_text.specs.PolyText.{join, list_text, poly_text}
use Rattle.problem.specs.Problem.{ProblemData, curve_of}
use Rattle.curve_model.specs.declared.point.Point.{Point}
use Rattle.lift_colon.specs.Lifted.{LiftedData}
use Rattle.jacobian_pick.specs.Choice.{curve_of_lifted}
use Rattle.norm_text.specs.Named.{IsNamedList}
use Rattle.norm_text.specs.Answers.{IsAnswerText}
use Rattle.curve_answer.specs.Deltas.{IsWithin, IsFirstAbove}

-- the line that names a point whose delta is above the limit
abbrev pub delta_line : ℕ → List ℕ → List (List Term) → List ℕ
delta_line p letters P = codes "refused: delta " ++ (list_text p letters P ++ codes "\n")

-- delta is at most L at each named point
abbrev pub IsWithinLimit : ProblemData → List Term → ℕ → Type 0
IsWithinLimit problem d L = (S : List (List (List Term))) × IsNamedList problem (curve_of problem d) S × IsWithin (curve_of problem d) L S

-- then the text is the answer to the problem with the denominator d
pub record IsSolved (problem : ProblemData) (d : List Term) (L : ℕ) (text : List ℕ) : Type 0 where
  pub within : IsWithinLimit problem d L
  pub answer : IsAnswerText problem d text

-- else it names the first of the named points, in byte order of their texts, whose delta is above L
pub record IsRefusedByDelta (problem : ProblemData) (d : List Term) (L : ℕ) (text : List ℕ) : Type 0 where
  pub points : List (List (List Term))
  pub point : List (List Term)
  pub named : IsNamedList problem (curve_of problem d) points
  pub first : IsFirstAbove (curve_of problem d) L points point
  pub line : text ≡ delta_line problem.prime problem.letters point

-- ---- how the program writes it

-- that line, each polynomial over its own prime
abbrev pub own_delta_line : List ℕ → Point → List ℕ
own_delta_line letters point =
    codes "refused: delta " ++ (join (codes ", ") (map (λ f. poly_text f.prime letters f.terms) point.basis) ++ codes "\n")

-- the dimension modulo the denominator is one number, by the bases and by the generators
abbrev pub HaveOneDimension : ProblemData → LiftedData → Type 0
HaveOneDimension problem l =
    (N : ℕ) → HasDimModulo (data_of (curve_of_lifted l)) N ↔ HasDimModulo (curve_of problem l.denominator.terms) N
