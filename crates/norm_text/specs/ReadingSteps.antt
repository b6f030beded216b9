-- What is read of an answer's text, piece by piece.
use Rattle.std.specs.Prelude.{ℕ, ◌≡◌, List, [], ◌∷◌, ◌++◌, map, codes, decimal, All}
use Rattle.prime_field.specs.Primes.{IsCharacteristic}
use Rattle.problem.specs.Letters.{AreLetters}
use Rattle.poly_text.specs.PolyText.{join, poly_text, list_text}
use Rattle.norm_text.specs.declared.answer.Answer.{Answer}
use Rattle.norm_text.specs.declared.reading.Head.{Head}
use Rattle.norm_text.specs.Answer.{PointData, AnswerData}
use Rattle.norm_text.specs.Ranges.{IsPrintable, IsSizedPoint}
use Rattle.norm_text.specs.Reading.{IsReadable}

-- the line of a point behind its word
abbrev pub point_body : ℕ → List ℕ → PointData → List ℕ
point_body p letters P =
    list_text p letters P.basis ++ (codes "; degree " ++ (decimal P.degree ++ (codes "; delta " ++ decimal P.delta)))

-- the characteristic is in the table, and the letters are 1 to 6 distinct ones
pub record AreKnown (p : ℕ) (letters : List ℕ) : Type 0 where
  pub prime : IsCharacteristic p
  pub names : AreLetters letters

-- the numbers of a point are in range, and its polynomials can be printed
pub record IsPointInRange (p : ℕ) (letters : List ℕ) (P : PointData) : Type 0 where
  pub sizes : IsSizedPoint P
  pub basis : All (IsPrintable p letters) P.basis

-- what the lines before the points say of the data, with these bytes behind them
pub record IsHeadOf (head : Head) (a : AnswerData) (behind : List ℕ) : Type 0 where
  pub characteristic : head.characteristic.now ≡ decimal a.prime
  pub variables : head.variables.now ≡ join (codes ",") (map (λ x. x ∷ []) a.letters)
  pub denominator : head.denominator.now ≡ poly_text a.prime a.letters a.denominator
  pub dimension : head.dimension ≡ a.dimension
  pub named : head.named ≡ a.named
  pub rest : head.rest.now ≡ behind

-- the prime, the letters and the polynomials of an answer that was read
pub record IsReadableAnswer (a : Answer) : Type 0 where
  pub prime : IsCharacteristic a.prime
  pub letters : AreLetters a.letters
  pub denominator : IsReadable a.prime a.letters a.denominator
  pub points : All (λ line. All (IsReadable a.prime a.letters) line.point.basis) a.points
  pub numerators : All (IsReadable a.prime a.letters) a.numerators
