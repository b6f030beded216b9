-- What is told of a problem: its answer, or the first named point whose delta is above the limit.
use Rattle.std.specs.Prelude.{◌≡◌, ℕ, List, All}
use Rattle.polys.specs.declared.term.Term.{Term}
use Rattle.curve_model.specs.Point.{basis_of}
use Rattle.curve_model.specs.declared.point.Point.{Point}
use Rattle.problem.specs.declared.problem.Problem.{Problem}
use Rattle.problem.specs.Problem.{problem_data, curve_of}
use Rattle.norm_text.specs.Named.{IsNamedList}
use Rattle.norm_text.specs.Answers.{IsAnswer}
use Rattle.norm_text.specs.Shown.{data_of}
use Rattle.norm_text.specs.declared.answer.Answer.{Answer}
use Rattle.curve_answer.specs.Deltas.{IsWithin, IsFirstAbove}
use Rattle.curve_answer.specs.declared.told.Told.{Told}
use Rattle.curve_answer.specs.declared.told.Told.TheVariants as told

-- the polynomials are over the answer's prime
pub record IsPrintable (a : Answer) : Type 0 where
  pub denominator : a.denominator.prime ≡ a.prime
  pub points : All (λ line. All (λ f. f.prime ≡ a.prime) line.point.basis) a.points
  pub numerators : All (λ f. f.prime ≡ a.prime) a.numerators

-- delta is at most L at each named point, and this is the answer
pub record IsRight (problem : Problem) (d : List Term) (L : ℕ) (a : Answer) : Type 0 where
  pub printable : IsPrintable a
  pub points : List (List (List Term))
  pub named : IsNamedList (problem_data problem) (curve_of (problem_data problem) d) points
  pub within : IsWithin (curve_of (problem_data problem) d) L points
  pub answer : IsAnswer (problem_data problem) d (data_of a)

-- P is the first of the named points whose delta is above L
pub record IsAbove (problem : Problem) (d : List Term) (L : ℕ) (P : Point) : Type 0 where
  pub inside : All (λ f. f.prime ≡ problem.prime) P.basis
  pub points : List (List (List Term))
  pub named : IsNamedList (problem_data problem) (curve_of (problem_data problem) d) points
  pub first : IsFirstAbove (curve_of (problem_data problem) d) L points (basis_of P)

abbrev pub Tells : Problem → List Term → ℕ → Told → Type 0
Tells problem d L (told.Answer a) = IsRight problem d L a
Tells problem d L (told.Above P) = IsAbove problem d L P
