-- What a problem's text says: the first thing that is wrong with it, or the problem that it states.
use Rattle.std.specs.Prelude.{ℕ, ◌≡◌, ◌||◌, nat_lt, not, length, map, if◌then◌else◌, Bool, List, Option, None, Some, Result, Ok, Err}
use Rattle.std.specs.List.{list_all}
use Rattle.prime_field.specs.Primes.{characteristics}
use Rattle.prime_field.specs.Primes as primes
use Rattle.polys.specs.declared.term.Term.{Term}
use Rattle.problem.specs.Problem.{ProblemData, IsProblem, problem_data}
use Rattle.problem.specs.declared.limits.TheConstants.{MAX_LETTERS, MAX_GENERATORS, MAX_STATEMENTS, MAX_POINT_POLYNOMIALS, MAX_NESTING, MAX_DIGITS}
use Rattle.problem.specs.declared.problem.Problem.{Problem}
use Rattle.poly_text.specs.Digits.{number}
use Rattle.problem_form.specs.Expressions.{Expression, nesting, most_digits}
use Rattle.problem_form.specs.ProblemText.{ProblemText, DenominatorText, IsTextOf, expressions, greatest}
use Rattle.singular_text.specs.Values.{value, subexpressions, is_small}
use Rattle.singular_text.specs.declared.faults.ReadFault.{ReadFault}
use Rattle.singular_text.specs.declared.faults.ReadFault.TheVariants.{Syntax, Characteristic, Limit, Memory}
use Rattle.singular_text.specs.declared.faults.Which.TheVariants.{Variables, Generators, Points, Nesting, Digits, Size}

-- each subexpression has a small value
abbrev pub has_small_values : ℕ → List ℕ → Expression → Bool
has_small_values p letters e = list_all (λ s. is_small (value p letters s)) (subexpressions e)

-- the first thing that is wrong with a text of the grammar, in the order of the checks
abbrev pub first_fault : ProblemText → Option ReadFault
first_fault t =
    let p = number t.characteristic in
    if not (primes.is_among characteristics p) then Some Characteristic
    else (if nat_lt MAX_LETTERS (length t.letters) then Some (Limit Variables)
    else (if nat_lt MAX_GENERATORS (length t.generators) then Some (Limit Generators)
    else (if nat_lt MAX_STATEMENTS (length t.at) || nat_lt MAX_POINT_POLYNOMIALS (greatest (λ es. length es) t.at) then Some (Limit Points)
    else (if nat_lt MAX_NESTING (greatest nesting (expressions t)) then Some (Limit Nesting)
    else (if nat_lt MAX_DIGITS (greatest most_digits (expressions t)) then Some (Limit Digits)
    else (if not (list_all (has_small_values p t.letters) (expressions t)) then Some (Limit Size) else None))))))

-- the value of a denominator, where its statement stands
abbrev pub denominator_value : ℕ → List ℕ → Option DenominatorText → Option (List Term)
denominator_value p letters None = None
denominator_value p letters (Some d) = Some (value p letters d.expression)

-- the problem that the text states
abbrev pub problem_of : ProblemText → ProblemData
problem_of t = record {
  prime = number t.characteristic;
  letters = t.letters;
  generators = map (value (number t.characteristic) t.letters) t.generators;
  denominator = denominator_value (number t.characteristic) t.letters t.denominator;
  at = map (map (value (number t.characteristic) t.letters)) t.at;
}

-- what a text of the grammar states, where nothing is wrong with it, is a problem
abbrev pub TextsStateProblems : Type 0
TextsStateProblems = (bytes : List ℕ) (t : ProblemText) → IsTextOf bytes t → first_fault t ≡ None → IsProblem (problem_of t)

-- ---- what is answered

-- the answer is a problem, or a fault of a text of the grammar
abbrev pub IsOfText : Result Problem ReadFault → Type 0
IsOfText (Ok problem) = Unit {0}
IsOfText (Err Syntax) = ⊥
IsOfText (Err Memory) = ⊥
IsOfText (Err fault) = Unit {0}

-- the answer to the text: the problem that it states where it has no fault, or its first fault, or out of memory
abbrev pub Answers : Result Problem ReadFault → ProblemText → Type 0
Answers (Ok problem) t = (first_fault t ≡ None) × (problem_data problem ≡ problem_of t)
Answers (Err Memory) t = Unit {0}
Answers (Err fault) t = first_fault t ≡ Some fault
