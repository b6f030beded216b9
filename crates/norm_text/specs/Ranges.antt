-- What the text of an answer may say: the ranges of its numbers, and which polynomials it may have.
use Rattle.std.specs.Prelude.{ℕ, ◌≤◌, List, length, All, IfSome}
use Rattle.prime_field.specs.Primes.{IsCharacteristic}
use Rattle.polys.specs.declared.term.Term.{Term}
use Rattle.polys.specs.declared.curve.TheConstants.{LARGEST_DIMENSION}
use Rattle.polys.specs.Terms.{EachMono, IsPoly}
use Rattle.problem.specs.Letters.{AreLetters}
use Rattle.poly_text.specs.PolyReading.{IsWithinDegree}
use Rattle.norm_text.specs.declared.limits.TheConstants.{MAX_POINTS, MAX_DELTA, MAX_POWER}
use Rattle.norm_text.specs.Answer.{PointData, AnswerData}

-- the polynomial modulo p is in the variables of the letters, and has no monomial of a degree above 60,000
pub record IsPrintable (p : ℕ) (letters : List ℕ) (f : List Term) : Type 0 where
  pub poly : IsPoly p (length letters) f
  pub low : EachMono IsWithinDegree f

-- at least one polynomial, a degree from 1 to 256 and a delta from 1 to 64
pub record IsSizedPoint (P : PointData) : Type 0 where
  pub some : 1 ≤ length P.basis
  pub has_degree : 1 ≤ P.degree
  pub degree : P.degree ≤ LARGEST_DIMENSION
  pub has_delta : 1 ≤ P.delta
  pub delta : P.delta ≤ MAX_DELTA

-- the dimension is at most 256, and so are the number of named points and that of the points that have a line; the power
-- is at most 64, and there is a numerator
pub record AreSized (a : AnswerData) : Type 0 where
  pub dimension : a.dimension ≤ LARGEST_DIMENSION
  pub named : IfSome a.named (λ n. n ≤ MAX_POINTS)
  pub few : length a.points ≤ MAX_POINTS
  pub points : All IsSizedPoint a.points
  pub power : a.power ≤ MAX_POWER
  pub some : 1 ≤ length a.numerators

-- the characteristic is in the table, the letters are 1 to 6 distinct ones, the numbers are in their ranges, and each
-- polynomial is one modulo the characteristic in the variables of the letters. A polynomial may be 0, and the points may
-- have any order: whether the data are an answer to a problem is not said
pub record IsInRange (a : AnswerData) : Type 0 where
  pub prime : IsCharacteristic a.prime
  pub letters : AreLetters a.letters
  pub sizes : AreSized a
  pub denominator : IsPrintable a.prime a.letters a.denominator
  pub points : All (λ P. All (IsPrintable a.prime a.letters) P.basis) a.points
  pub numerators : All (IsPrintable a.prime a.letters) a.numerators
