-- The form of a whole text and its counts.
use Rattle.std.specs.Prelude.{ℕ, ◌≡◌, ◌≢◌, ◌≤◌, All, AllPairs, length, codes, if◌then◌else◌, Bool, true, false, List, ◌++◌, Option, None, Some, option_and_then, flat_map}
use Rattle.problem.specs.Letters.{IsLetter}
use Rattle.problem_form.specs.declared.scanning.Place.{Place}
use Rattle.problem_form.specs.declared.scanning.Place.TheVariants.{Between}
use Rattle.problem_form.specs.declared.scanning.Scan.{Scan}
use Rattle.problem_form.specs.Expressions.{Expression, nesting, most_digits}
use Rattle.problem_form.specs.Reading.{begun_at}
use Rattle.problem_form.specs.Scanning.{scan, first_scan}
use Rattle.problem_form.specs.ProblemText.{ProblemText, DenominatorText, IsTextOf, HasText, list_spelling, denominator_spelling, at_spelling, denominators, greatest}

abbrev pub is_between : Place → Bool
is_between Between = true
is_between _ = false

-- the counts of the statements behind the ring, and their tokens behind `ideal`, its name and `=`
unfoldable pub statements_at : List ℕ → List (List ℕ) → Option (Scan × List (List ℕ))
statements_at letters ts =
    option_and_then (λ body. option_and_then (λ s. if is_between s.place then Some (s, body) else None) (scan letters first_scan body)) (begun_at (codes "ideal") ts)

-- the tokens of the statements behind `ideal`, its name and `=`
abbrev pub body_spelling : List Expression → Option DenominatorText → List (List Expression) → List (List ℕ)
body_spelling generators denominator at = list_spelling generators ++ (denominator_spelling denominator ++ at_spelling at)

abbrev pub body_expressions : List Expression → Option DenominatorText → List (List Expression) → List Expression
body_expressions generators denominator at = generators ++ (denominators denominator ++ flat_map (λ es. es) at)

-- what is counted of the statements
pub record Counts (es : List Expression) (d : Option DenominatorText) (ats : List (List Expression)) (s : Scan) : Type 0 where
  pub place : s.place ≡ Between
  pub generators : s.generators ≡ length es
  pub statements : s.statements ≡ length ats
  pub longest : s.longest ≡ greatest (λ fs. length fs) ats
  pub nesting : s.nesting ≡ greatest nesting (body_expressions es d ats)
  pub digits : s.digits ≡ greatest most_digits (body_expressions es d ats)

-- the parts of a text, as they are read, and what is counted of it
pub record IsFormOf (digits letters : List ℕ) (s : Scan) (ts : List (List ℕ)) (t : ProblemText) : Type 0 where
  pub digits_are : digits ≡ t.characteristic
  pub letters_are : letters ≡ t.letters
  pub body : ts ≡ body_spelling t.generators t.denominator t.at
  pub counts : Counts t.generators t.denominator t.at s

-- the bytes are a text, and these are the parts of each text that they are
pub record IsForm (bytes digits letters : List ℕ) (s : Scan) (ts : List (List ℕ)) : Type 0 where
  pub some : HasText bytes
  pub each : (t : ProblemText) → IsTextOf bytes t → IsFormOf digits letters s ts t

-- one letter or more, each once
pub record AreRingLetters (letters : List ℕ) : Type 0 where
  pub some : 1 ≤ length letters
  pub each : All IsLetter letters
  pub distinct : AllPairs (λ x y. x ≢ y) letters
