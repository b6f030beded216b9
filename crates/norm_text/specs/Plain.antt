-- The answer where nothing is left modulo the denominator.
use Rattle.std.specs.Prelude.{◌≡◌, List, [], ◌∷◌, None}
use Rattle.polys.specs.declared.term.Term.{Term}
use Rattle.polys.specs.Terms.{one}
use Rattle.polys.specs.Curve.{HasDimModulo}
use Rattle.curve_model.specs.Laws.{IsRegular}
use Rattle.problem.specs.Problem.{ProblemData, curve_of}
use Rattle.norm_text.specs.Answer.{AnswerData}
use Rattle.norm_text.specs.Answers.{IsAnswer}

-- dimension 0, no point, power 0 and the numerator 1
abbrev pub plain_answer : ProblemData → List Term → AnswerData
plain_answer problem d = record {
  prime = problem.prime;
  letters = problem.letters;
  denominator = d;
  dimension = 0;
  named = None;
  points = [];
  power = 0;
  numerators = one ∷ [];
}

-- no `at` statement, and a regular denominator modulo which nothing is left
pub record LeavesNothing (problem : ProblemData) (d : List Term) : Type 0 where
  pub unnamed : problem.at ≡ []
  pub curve : IsRegular (curve_of problem d)
  pub dimension : HasDimModulo (curve_of problem d) 0

-- then the ring is its own closure
abbrev pub PlainAnswers : Type 0
PlainAnswers = (problem : ProblemData) (d : List Term) → LeavesNothing problem d → IsAnswer problem d (plain_answer problem d)
