-- What is read of a polynomial's text, byte by byte. Bytes that no text has are read too, as some terms.
use Rattle.std.specs.Prelude.{ℕ, ◌+◌, ◌*◌, ◌-◌, ◌≤◌, ◌<◌, ◌==◌, ◌||◌, min, if◌then◌else◌, Bool, true, false, List, [], ◌∷◌, ◌++◌, Option, None, Some, IfSome, unwrap_or}
use Rattle.std.specs.Char.{is_ascii_digit}
use Rattle.monomials.specs.Mono.{Monomial, IsMono, unit, total_degree}
use Rattle.polys.specs.declared.term.Term.{Term}
use Rattle.polys.specs.Terms.{IsAffine, keep}
use Rattle.poly_text.specs.declared.reading.PartialTerm.{PartialTerm}
use Rattle.problem.specs.Letters.{place, is_among}
use Rattle.poly_text.specs.Raising.{raised}

-- nothing was read behind the sign
abbrev pub begun : Bool → PartialTerm
begun is_negative = record { is_negative = is_negative; size = 1; mono = unit; letter = None; number = None }

-- the power e of the variable v, so far as the degree stays within 60,000
abbrev pub raised_within : Monomial → ℕ → ℕ → Monomial
raised_within m v e = raised m v (min e (60000 - total_degree m.exponents))

-- the size and the monomial with the number put to the letter before it, or as the size where there is no letter
abbrev pub settled_at : PartialTerm → Option ℕ → Term
settled_at s None = record { coeff = unwrap_or s.number s.size; mono = s.mono }
settled_at s (Some v) = record { coeff = s.size; mono = raised_within s.mono v (unwrap_or s.number 1) }

abbrev pub settled : PartialTerm → Term
settled s = settled_at s s.letter

abbrev pub with_digit : PartialTerm → ℕ → PartialTerm
with_digit s b = record {
  is_negative = s.is_negative;
  size = s.size;
  mono = s.mono;
  letter = s.letter;
  number = Some (min (unwrap_or s.number 0 * 10 + (b - 48)) 60000);
}

abbrev pub with_letter : List ℕ → PartialTerm → ℕ → PartialTerm
with_letter letters s b = record {
  is_negative = s.is_negative;
  size = (settled s).coeff;
  mono = (settled s).mono;
  letter = Some (place letters b);
  number = None;
}

-- a digit or a letter more; stars and carets say nothing new
abbrev pub with_byte : List ℕ → PartialTerm → ℕ → PartialTerm
with_byte letters s b =
    if is_ascii_digit b then with_digit s b else (if is_among letters b then with_letter letters s b else s)

-- the residue of this size and sign
abbrev pub residue_of : ℕ → Bool → ℕ → ℕ
residue_of p is_negative size = if is_negative then p - size else size

-- the term that was read, or none where its coefficient is 0
abbrev pub finished : ℕ → PartialTerm → List Term
finished p s = keep (residue_of p s.is_negative (settled s).coeff) (settled s).mono []

abbrev pub is_sign : ℕ → Bool
is_sign b = b == 43 || b == 45

-- the terms that were read at the end of the bytes
unfoldable pub terms_in : ℕ → List ℕ → PartialTerm → List ℕ → List Term
terms_in p letters s [] = finished p s
terms_in p letters s (b ∷ bytes) =
    if is_sign b then (finished p s ++ terms_in p letters (begun (b == 45)) bytes)
    else terms_in p letters (with_byte letters s b) bytes

-- the terms of the bytes, the first with a sign only where it is negative
abbrev pub all_terms : ℕ → List ℕ → List ℕ → List Term
all_terms p letters [] = terms_in p letters (begun false) []
all_terms p letters (b ∷ bytes) =
    if b == 45 then terms_in p letters (begun true) bytes else terms_in p letters (begun false) (b ∷ bytes)

-- a term that is being read over n letters
pub record IsPartialTerm (n : ℕ) (s : PartialTerm) : Type 0 where
  pub mono : IsMono s.mono
  pub affine : IsAffine n s.mono
  pub letter : IfSome s.letter (λ v. v < n)
  pub number : IfSome s.number (λ k. k ≤ 60000)
