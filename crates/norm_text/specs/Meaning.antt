-- What an answer says of fractions: the sentences that a reader comes for.
use Rattle.std.specs.Prelude.{◌≡◌, ◌↔◌, ℕ, ◌<◌, List, []}
use Rattle.polys.specs.declared.term.Term.{Term}
use Rattle.curve_model.specs.Fraction.{Fraction, IsFraction, EqualsOver}
use Rattle.curve_model.specs.Integral.{Integral}
use Rattle.curve_model.specs.Local.{LocalAt}
use Rattle.curve_model.specs.Closure.{InModule}
use Rattle.curve_model.specs.Laws.{IsRegular}
use Rattle.problem.specs.Problem.{ProblemData, curve_of}
use Rattle.norm_text.specs.Named.{IsNamedList}
use Rattle.norm_text.specs.Answer.{AnswerData}
use Rattle.norm_text.specs.Answers.{IsAnswer, IsAnswerText}

-- where no points are named, a fraction lies in the printed module exactly where it is integral
abbrev pub ModulesAreIntegral : Type 0
ModulesAreIntegral =
    (problem : ProblemData) (d : List Term) → IsRegular (curve_of problem d) → problem.at ≡ [] → (a : AnswerData) → IsAnswer problem d a
    → (f : Fraction) → IsFraction (curve_of problem d) f → InModule (curve_of problem d) a.power a.numerators f ↔ Integral (curve_of problem d) f

-- else exactly where it is integral and local at the named points, in whatever order these are listed
abbrev pub ModulesAreLocal : Type 0
ModulesAreLocal =
    (problem : ProblemData) (d : List Term) → IsRegular (curve_of problem d) → (a : AnswerData) → IsAnswer problem d a
    → (S : List (List (List Term))) → IsNamedList problem (curve_of problem d) S
    → (f : Fraction) → IsFraction (curve_of problem d) f → InModule (curve_of problem d) a.power a.numerators f ↔ LocalAt (curve_of problem d) S f

-- and no smaller power than the printed one is a denominator of them all
abbrev pub PowersAreLeast : Type 0
PowersAreLeast =
    (problem : ProblemData) (d : List Term) → IsRegular (curve_of problem d) → problem.at ≡ [] → (a : AnswerData) → IsAnswer problem d a
    → (k : ℕ) → k < a.power → ((f : Fraction) → IsFraction (curve_of problem d) f → Integral (curve_of problem d) f → EqualsOver (curve_of problem d) k f) → ⊥

-- a problem with a denominator has one answer, and so one text
abbrev pub AnswersAreOne : Type 0
AnswersAreOne =
    (problem : ProblemData) (d : List Term) → IsRegular (curve_of problem d) → (a b : AnswerData) → IsAnswer problem d a → IsAnswer problem d b → a ≡ b

abbrev pub TextsAreOne : Type 0
TextsAreOne =
    (problem : ProblemData) (d : List Term) → IsRegular (curve_of problem d) → (s t : List ℕ) → IsAnswerText problem d s → IsAnswerText problem d t → s ≡ t
