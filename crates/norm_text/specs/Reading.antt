-- Answers read back from their texts.
use Rattle.std.specs.Prelude.{ℕ, ◌≡◌, List, All, Result, MatchResult}
use Rattle.polys.specs.Poly.{Polynomial}
use Rattle.norm_text.specs.declared.answer.Answer.{Answer}
use Rattle.norm_text.specs.declared.reading.AnswerFault.{AnswerFault}
use Rattle.norm_text.specs.declared.reading.AnswerFault.TheVariants.{Memory}
use Rattle.norm_text.specs.Answer.{AnswerData, answer_text}
use Rattle.norm_text.specs.Ranges.{IsPrintable, IsInRange}

-- what was read is so, unless memory ran out
abbrev pub IsReadUnlessFull : {T : Type 0} → Result T AnswerFault → (T → Type 0) → Type 0
IsReadUnlessFull result P = MatchResult result P (λ fault. fault ≡ Memory)

-- the polynomial is over the prime, and its text over the letters can be read
pub record IsReadable (p : ℕ) (letters : List ℕ) (f : Polynomial) : Type 0 where
  pub prime : f.prime ≡ p
  pub printable : IsPrintable p letters f.terms

-- the polynomials of an answer are over its prime
pub record IsOverItsPrime (a : Answer) : Type 0 where
  pub denominator : a.denominator.prime ≡ a.prime
  pub points : All (λ P. All (λ f. f.prime ≡ a.prime) P.point.basis) a.points
  pub numerators : All (λ f. f.prime ≡ a.prime) a.numerators

-- no text is that of two data
abbrev pub AnswerTextsTell : Type 0
AnswerTextsTell = (a b : AnswerData) → IsInRange a → IsInRange b → answer_text a ≡ answer_text b → a ≡ b
