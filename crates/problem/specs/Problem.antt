-- A problem as plain data.
use Rattle.std.specs.Prelude.{ℕ, ◌≡◌, ◌≤◌, List, length, map, All, Option, option_map, IfSome}
use Rattle.prime_field.specs.Primes.{IsPrime}
use Rattle.polys.specs.declared.term.Term.{Term}
use Rattle.polys.specs.Poly.{Polynomial, terms_of}
use Rattle.polys.specs.Curve.{CurveData}
use Rattle.polys.specs.Terms.{IsPoly, degree_of}
use Rattle.problem.specs.Letters.{AreLetters}
use Rattle.problem.specs.declared.limits.TheConstants.{MAX_VALUE_DEGREE, MAX_GENERATORS}
use Rattle.problem.specs.declared.problem.Problem.{Problem}

-- the characteristic, the letters of the variables, the generators of I, the denominator that is handed in, and the
-- polynomials of each `at` statement
pub record ProblemData : Type 0 where
  pub prime : ℕ
  pub letters : List ℕ
  pub generators : List (List Term)
  pub denominator : Option (List Term)
  pub at : List (List (List Term))

-- the data of a problem: the characteristic is prime, the letters are 1 to 6 distinct ones, and each polynomial is one
-- modulo the prime in as many variables
pub record IsProblem (problem : ProblemData) : Type 0 where
  pub prime : IsPrime problem.prime
  pub letters : AreLetters problem.letters
  pub generators : All (IsPoly problem.prime (length problem.letters)) problem.generators
  pub denominator : IfSome problem.denominator (IsPoly problem.prime (length problem.letters))
  pub at : All (All (IsPoly problem.prime (length problem.letters))) problem.at

-- the ring of the problem with fractions over powers of d
abbrev pub curve_of : ProblemData → List Term → CurveData
curve_of problem d =
    record { prime = problem.prime; variables = length problem.letters; ideal = problem.generators; denominator = d }

-- the data of a problem of the program
abbrev pub problem_data : Problem → ProblemData
problem_data problem = record {
  prime = problem.prime;
  letters = problem.letters;
  generators = terms_of problem.generators;
  denominator = option_map (λ f. f.terms) problem.denominator;
  at = map terms_of problem.at;
}

-- ---- what the polynomials of a problem of the program are

-- the polynomial modulo p is in the variables of the letters, and small enough to be multiplied
pub record IsFit (p n : ℕ) (f : Polynomial) : Type 0 where
  pub prime : f.prime ≡ p
  pub poly : IsPoly p n f.terms
  pub degree : degree_of f.terms ≤ MAX_VALUE_DEGREE

-- the generators and the denominator are over the prime and in the letters' variables, and have degree at most 60
pub record HasFitPolynomials (problem : Problem) : Type 0 where
  pub generators : All (IsFit problem.prime (length problem.letters)) problem.generators
  pub denominator : IfSome problem.denominator (IsFit problem.prime (length problem.letters))

-- there are 1 to 12 generators, and the polynomials of the `at` statements are so too
pub record IsFitProblem (problem : Problem) : Type 0 where
  pub some : 1 ≤ length problem.generators
  pub few : length problem.generators ≤ MAX_GENERATORS
  pub ready : HasFitPolynomials problem
  pub at : All (All (IsFit problem.prime (length problem.letters))) problem.at
