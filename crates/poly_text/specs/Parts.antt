-- The parts of a polynomial's text in the order in which they are printed.
use Rattle.std.specs.Prelude.{ℕ, ◌==◌, ◌&&◌, if◌then◌else◌, Bool, true, false, List, [], ◌∷◌, ◌++◌, codes, decimal}
use Rattle.polys.specs.declared.term.Term.{Term}
use Rattle.poly_text.specs.PolyText.{power_text, term_text, is_shown_negative}

-- the star between two factors
abbrev pub star : Bool → List ℕ
star is_first = if is_first then [] else codes "*"

-- a power with the star before it, unless it comes first; nothing where the exponent is 0
abbrev pub factor_text : Bool → ℕ → ℕ → List ℕ
factor_text is_first x e = if e == 0 then [] else (star is_first ++ power_text x e)

-- the factors of the letters with these exponents
abbrev pub factors_text : Bool → List ℕ → List ℕ → List ℕ
factors_text is_first [] es = []
factors_text is_first (x ∷ letters) [] = []
factors_text is_first (x ∷ letters) (e ∷ es) = factor_text is_first x e ++ factors_text (is_first && e == 0) letters es

-- a list that is not empty
abbrev pub is_some : List (List ℕ) → Bool
is_some [] = false
is_some (f ∷ fs) = true

-- the size of a coefficient, unless it is left out
abbrev pub size_part : Bool → ℕ → List ℕ
size_part is_left_out n = if is_left_out then [] else decimal n

-- the sign before a term
abbrev pub sign_text : Bool → Bool → List ℕ
sign_text is_first is_negative = if is_negative then codes "-" else (if is_first then [] else codes "+")

-- terms with their signs
abbrev pub terms_text : ℕ → List ℕ → Bool → List Term → List ℕ
terms_text p letters is_first [] = []
terms_text p letters is_first (t ∷ f) =
    sign_text is_first (is_shown_negative p t.coeff) ++ (term_text p letters t ++ terms_text p letters false f)
