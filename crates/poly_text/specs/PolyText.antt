-- Polynomials as texts.
use Rattle.std.specs.Prelude.{ℕ, ◌-◌, ◌/◌, ◌==◌, nat_le, if◌then◌else◌, Bool, true, false, List, [], ◌∷◌, ◌++◌, map, codes, decimal}
use Rattle.polys.specs.declared.term.Term.{Term}

-- the lists joined, with the separator between two neighbours
abbrev pub join : List ℕ → List (List ℕ) → List ℕ
join between [] = []
join between (x ∷ []) = x
join between (x ∷ y ∷ rest) = x ++ (between ++ join between (y ∷ rest))

-- x to the power e, for e from 1 on
abbrev pub power_text : ℕ → ℕ → List ℕ
power_text letter e = if e == 1 then (letter ∷ []) else (letter ∷ (codes "^" ++ decimal e))

-- the powers of the letters whose exponents are not 0, in the order of the letters
abbrev pub factors : List ℕ → List ℕ → List (List ℕ)
factors [] es = []
factors (x ∷ letters) [] = []
factors (x ∷ letters) (e ∷ es) = if e == 0 then factors letters es else (power_text x e ∷ factors letters es)

-- a coefficient up to p/2 rounded down is shown as it is, one above it as itself less p
abbrev pub is_shown_negative : ℕ → ℕ → Bool
is_shown_negative p c = if nat_le c (p / 2) then false else true

-- the absolute value of the shown coefficient
abbrev pub shown_size : ℕ → ℕ → ℕ
shown_size p c = if nat_le c (p / 2) then c else p - c

-- the absolute value and the factors, joined by a star; the value 1 is left out where there is a factor
abbrev pub size_text : ℕ → List (List ℕ) → List ℕ
size_text n [] = decimal n
size_text n (f ∷ fs) = if n == 1 then join (codes "*") (f ∷ fs) else join (codes "*") (decimal n ∷ f ∷ fs)

-- a term without its sign
abbrev pub term_text : ℕ → List ℕ → Term → List ℕ
term_text p letters t = size_text (shown_size p t.coeff) (factors letters t.mono.exponents)

-- the terms after the first, each with its sign
abbrev pub later_text : ℕ → List ℕ → List Term → List ℕ
later_text p letters [] = []
later_text p letters (t ∷ f) =
    (if is_shown_negative p t.coeff then codes "-" else codes "+") ++ (term_text p letters t ++ later_text p letters f)

-- the terms from the greatest on; the first has a sign only where it is negative, and the polynomial 0 is `0`
abbrev pub poly_text : ℕ → List ℕ → List Term → List ℕ
poly_text p letters [] = codes "0"
poly_text p letters (t ∷ f) =
    (if is_shown_negative p t.coeff then codes "-" else []) ++ (term_text p letters t ++ later_text p letters f)

-- the polynomials of a list, joined by a comma and a blank
abbrev pub list_text : ℕ → List ℕ → List (List Term) → List ℕ
list_text p letters fs = join (codes ", ") (map (poly_text p letters) fs)
