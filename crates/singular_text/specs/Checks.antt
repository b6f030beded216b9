-- The checks of a text that has its form, and its values, in the order of the code.
use Rattle.std.specs.Prelude.{ℕ, ◌||◌, nat_lt, not, length, drop, zero, suc, codes, if◌then◌else◌, List, [], ◌∷◌, ◌++◌, Option, None, Some, Result, Ok, Err, IfSome}
use Rattle.std.specs.List.{AllByRecursion, last_or}
use Rattle.prime_field.specs.Primes.{characteristics}
use Rattle.prime_field.specs.Primes as primes
use Rattle.polys.specs.Poly.{Polynomial}
use Rattle.problem.specs.Problem.{IsFit}
use Rattle.problem.specs.declared.limits.TheConstants.{MAX_LETTERS, MAX_GENERATORS, MAX_STATEMENTS, MAX_POINT_POLYNOMIALS, MAX_NESTING, MAX_DIGITS}
use Rattle.problem.specs.declared.problem.Problem.{Problem}
use Rattle.poly_text.specs.Digits.{number}
use Rattle.problem_form.specs.declared.scanning.Scan.{Scan}
use Rattle.problem_form.specs.Reading.{begun_at}
use Rattle.singular_text.specs.Evaluating.{and_then, evaluate, new_frame}
use Rattle.singular_text.specs.declared.faults.ReadFault.{ReadFault}
use Rattle.singular_text.specs.declared.faults.ReadFault.TheVariants.{Characteristic, Limit}
use Rattle.singular_text.specs.declared.faults.Which.TheVariants.{Variables, Generators, Points, Nesting, Digits}

-- the fault that was answered
abbrev pub fault_of : {A : Type 0} → Result A ReadFault → Option ReadFault
fault_of (Ok x) = None
fault_of (Err fault) = Some fault

-- the first of the counts that is above its limit
abbrev pub count_fault : Scan → Option ReadFault
count_fault s =
    if nat_lt MAX_GENERATORS s.generators then Some (Limit Generators)
    else (if nat_lt MAX_STATEMENTS s.statements || nat_lt MAX_POINT_POLYNOMIALS s.longest then Some (Limit Points)
    else (if nat_lt MAX_NESTING s.nesting then Some (Limit Nesting)
    else (if nat_lt MAX_DIGITS s.digits then Some (Limit Digits) else None)))

-- the fault, or else the result
abbrev pub or_fault : {A : Type 0} → Option ReadFault → Result A ReadFault → Result A ReadFault
or_fault None result = result
or_fault (Some fault) result = Err fault

-- the same by the tokens behind `poly`, its name and `=`
abbrev pub denominator_by : ℕ → List ℕ → List (List ℕ) → Option (List (List ℕ)) → Result (Option Polynomial × List (List ℕ)) ReadFault
denominator_by p letters ts None = Ok (None, ts)
denominator_by p letters ts (Some behind) = and_then (evaluate p letters [] new_frame [] behind) (λ r. Ok (last_or None r.0, r.1))

-- the value of the denominator, if its statement stands here, and the tokens behind it
unfoldable pub denominator_at : ℕ → List ℕ → List (List ℕ) → Result (Option Polynomial × List (List ℕ)) ReadFault
denominator_at p letters ts = denominator_by p letters ts (begun_at (codes "poly") ts)

-- the values of so many `at` statements, behind those that were read
unfoldable pub points_at : ℕ → List ℕ → List (List Polynomial) → ℕ → List (List ℕ) → Result (List (List Polynomial)) ReadFault
points_at p letters before zero ts = Ok before
points_at p letters before (suc n) ts = and_then (evaluate p letters [] new_frame [] (drop 1 ts)) (λ r. points_at p letters (before ++ r.0 ∷ []) n r.1)

-- the problem of these parts
abbrev pub problem_with : ℕ → List ℕ → List Polynomial → Option Polynomial → List (List Polynomial) → Problem
problem_with p letters generators denominator at = record { prime = p; letters = letters; generators = generators; denominator = denominator; at = at }

-- the problem of the statements
unfoldable pub problem_at : ℕ → List ℕ → ℕ → List (List ℕ) → Result Problem ReadFault
problem_at p letters n ts =
    and_then (evaluate p letters [] new_frame [] ts)
    (λ g. and_then (denominator_at p letters g.1) (λ d. and_then (points_at p letters [] n d.1) (λ at. Ok (problem_with p letters g.0 d.0 at))))

-- the checks in their order, and then the problem
unfoldable pub problem_by : List ℕ → List ℕ → Scan → List (List ℕ) → Result Problem ReadFault
problem_by digits letters s ts =
    if not (primes.is_among characteristics (number digits)) then Err Characteristic
    else (if nat_lt MAX_LETTERS (length letters) then Err (Limit Variables) else or_fault (count_fault s) (problem_at (number digits) letters s.statements ts))

-- each polynomial is over the prime and in the letters' variables, and has degree at most 60
pub record HasFitPolys (problem : Problem) : Type 0 where
  pub generators : AllByRecursion (IsFit problem.prime (length problem.letters)) problem.generators
  pub denominator : IfSome problem.denominator (IsFit problem.prime (length problem.letters))
  pub at : AllByRecursion (AllByRecursion (IsFit problem.prime (length problem.letters))) problem.at
