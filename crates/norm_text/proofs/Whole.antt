-- The lines of an answer, all of them.
use Rattle.std.proofs.Common.{◌≡◌, ℕ, List, ◌++◌, refl, sym, subst, ◌∙◌, append_assoc, ◌≤◌, drop, arith}
use Rattle.std.specs.Prelude.{codes, decimal, map}
use Rattle.std.specs.List.{All, flat_map}
use Rattle.poly_text.specs.PolyText.{poly_text}
use Rattle.norm_text.specs.Answer.{AnswerData, line, point_line, numerator_line, head_text, answer_text}
use Rattle.norm_text.specs.Ranges.{IsPrintable, AreSized, IsInRange}
use Rattle.norm_text.specs.ReadingSteps.{AreKnown, IsPointInRange, IsReadableAnswer}
use Rattle.norm_text.specs.Cutting.{until, behind}
use Rattle.polys.specs.Poly.{Polynomial}
use Rattle.norm_text.specs.declared.answer.Answer.{Answer}
use Rattle.norm_text.specs.Reading.{IsReadable, IsOverItsPrime}
use Rattle.norm_text.specs.Shown.{point_of, data_of}
use Rattle.norm_text.proofs.Sizes.{all_map}
use Rattle.norm_text.proofs.Cuts.{free_of, line_end, decimal_piece}
use Rattle.norm_text.proofs.Told.{line_read}

pub answer_parts : (head points power numerators last : List ℕ) → head ++ points ++ power ++ numerators ++ last ≡ head ++ (points ++ (power ++ (numerators ++ last)))
answer_parts head points power numerators last = simp append_assoc

-- what stands behind the points
abbrev pub behind_points : ℕ → List ℕ → AnswerData → List ℕ
behind_points p letters a = line (codes "power ") (decimal a.power) ++ (flat_map (numerator_line p letters) a.numerators ++ codes "end\n")

pub whole_text : (a : AnswerData) (bytes : List ℕ) → bytes ≡ answer_text a
    → bytes ≡ head_text a ++ (flat_map (point_line a.prime a.letters) a.points ++ behind_points a.prime a.letters a)
whole_text a bytes e =
    e ∙ answer_parts (head_text a) (flat_map (point_line a.prime a.letters) a.points) (line (codes "power ") (decimal a.power))
    (flat_map (numerator_line a.prime a.letters) a.numerators) (codes "end\n")

-- what the lines behind the letters are, over a prime and letters that were read
pub record Ready (a : AnswerData) (denominator rest : List ℕ) (p : ℕ) (letters : List ℕ) : Type 0 where
  pub ground : AreKnown p letters
  pub fits : IsPrintable p letters a.denominator
  pub text : denominator ≡ poly_text p letters a.denominator
  pub points : All (IsPointInRange p letters) a.points
  pub lines : rest ≡ flat_map (point_line p letters) a.points ++ behind_points p letters a
  pub numerators : All (IsPrintable p letters) a.numerators

pub ready : (a : AnswerData) → IsInRange a → (denominator rest : List ℕ) (p : ℕ) (letters : List ℕ) → p ≡ a.prime → letters ≡ a.letters
    → denominator ≡ poly_text a.prime a.letters a.denominator
    → rest ≡ flat_map (point_line a.prime a.letters) a.points ++ behind_points a.prime a.letters a → Ready a denominator rest p letters
ready a h denominator rest p letters is_prime is text lines =
    subst (λ q. Ready a denominator rest q letters) (sym is_prime)
    (subst (λ names. Ready a denominator rest a.prime names) (sym is)
    (record {
      ground = record { prime = h.prime; names = h.letters };
      fits = h.denominator;
      text = text;
      points = λ k d within. record { sizes = h.sizes.points k d within; basis = h.points k d within };
      lines = lines;
      numerators = h.numerators;
    }))

-- the line of the power, and the bytes behind it
pub power_read : (a : AnswerData) (p : ℕ) (letters bytes f r : List ℕ) → a.power ≤ 64 → bytes ≡ behind_points p letters a → f ≡ drop 6 (until 10 bytes) → r ≡ behind 10 bytes
    → (f ≡ decimal a.power) × (r ≡ flat_map (numerator_line p letters) a.numerators ++ codes "end\n")
power_read a p letters bytes f r small e is_f is_r =
    line_read (codes "power ") (decimal a.power) (flat_map (numerator_line p letters) a.numerators ++ codes "end\n") bytes f r
    (free_of 10 (codes "power ") refl) (decimal_piece 10 line_end a.power (omega arith)).free e is_f is_r

-- ---- what was read

readable_terms : (p : ℕ) (letters : List ℕ) (fs : List Polynomial) → All (IsReadable p letters) fs → All (IsPrintable p letters) (map (λ f. f.terms) fs)
readable_terms p letters fs h = all_map (λ f. f.terms) (IsPrintable p letters) fs (λ k d within. (h k d within).printable)

-- the data are in range
pub range_of : (a : Answer) → IsReadableAnswer a → AreSized (data_of a) → IsInRange (data_of a)
range_of a h sizes = record {
  prime = h.prime;
  letters = h.letters;
  sizes = sizes;
  denominator = h.denominator.printable;
  points = all_map point_of (λ P. All (IsPrintable a.prime a.letters) P.basis) a.points (λ k d within. readable_terms a.prime a.letters _ (h.points k d within));
  numerators = readable_terms a.prime a.letters a.numerators h.numerators;
}

-- the polynomials are over the prime
pub over_of : (a : Answer) → IsReadableAnswer a → IsOverItsPrime a
over_of a h = record {
  denominator = h.denominator.prime;
  points = λ k d within j e inside. (h.points k d within j e inside).prime;
  numerators = λ k d within. (h.numerators k d within).prime;
}
