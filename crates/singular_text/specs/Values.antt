-- The values of expressions: polynomials modulo p.
use Rattle.std.specs.Prelude.{ℕ, ◌+◌, ◌%◌, ◌&&◌, nat_le, length, if◌then◌else◌, Bool, true, false, List, [], ◌∷◌, ◌++◌}
use Rattle.std.specs.Char.{is_ascii_digit}
use Rattle.monomials.specs.Mono.{Monomial, unit, variable}
use Rattle.polys.specs.declared.term.Term.{Term}
use Rattle.polys.specs.Terms.{normal, add, sub, mul, power, degree_of}
use Rattle.problem.specs.Letters.{place}
use Rattle.problem.specs.declared.limits.TheConstants.{MAX_TERMS, MAX_VALUE_DEGREE}
use Rattle.poly_text.specs.Digits.{number}
use Rattle.poly_text.specs.Raising.{raised}
use Rattle.problem_form.specs.Expressions.{Expression, Letter, Number, Parentheses, Run, Power, Product, Signed, Sum}

-- the digits at the front
abbrev pub front_digits : List ℕ → List ℕ
front_digits [] = []
front_digits (b ∷ word) = if is_ascii_digit b then (b ∷ front_digits word) else []

-- the number of these digits, which is 1 where there is none
abbrev pub number_or_one : List ℕ → ℕ
number_or_one [] = 1
number_or_one (d ∷ digits) = number (d ∷ digits)

-- the number at the front
abbrev pub front_number : List ℕ → ℕ
front_number word = number_or_one (front_digits word)

-- the monomial m times the letters of a run, each with the number behind it as its exponent
unfoldable pub run_after : List ℕ → Monomial → List ℕ → Monomial
run_after letters m [] = m
run_after letters m (b ∷ word) =
    if is_ascii_digit b then run_after letters m word else run_after letters (raised m (place letters b) (front_number word)) word

-- the monomial of a run: `2x3y` has x^3 y
abbrev pub run_monomial : List ℕ → List ℕ → Monomial
run_monomial letters word = run_after letters unit word

-- the polynomial of one term
abbrev pub term_of : ℕ → ℕ → Monomial → List Term
term_of p c m = normal p (record { coeff = c; mono = m } ∷ [])

-- f, or 0 - f
abbrev pub signed : ℕ → Bool → List Term → List Term
signed p true f = sub p [] f
signed p false f = f

-- the value modulo p of an expression over these letters
abbrev pub value : ℕ → List ℕ → Expression → List Term
value p letters (Letter x) = term_of p 1 (variable (place letters x))
value p letters (Number digits) = term_of p (number digits % p) unit
value p letters (Parentheses inner) = value p letters inner
value p letters (Run word) = term_of p (front_number word % p) (run_monomial letters word)
value p letters (Power base exponent) = power p (value p letters base) (number exponent)
value p letters (Product term factor) = mul p (value p letters term) (value p letters factor)
value p letters (Signed is_negative term) = signed p is_negative (value p letters term)
value p letters (Sum earlier true term) = sub p (value p letters earlier) (value p letters term)
value p letters (Sum earlier false term) = add p (value p letters earlier) (value p letters term)

-- the expression and all that it is made of: letters, numbers that are bases, runs, expressions in parentheses, powers,
-- the terms up to each factor and the expressions up to each term
abbrev pub subexpressions : Expression → List Expression
subexpressions (Letter x) = Letter x ∷ []
subexpressions (Number digits) = Number digits ∷ []
subexpressions (Parentheses inner) = Parentheses inner ∷ subexpressions inner
subexpressions (Run word) = Run word ∷ []
subexpressions (Power base exponent) = Power base exponent ∷ subexpressions base
subexpressions (Product term factor) = Product term factor ∷ (subexpressions term ++ subexpressions factor)
subexpressions (Signed is_negative term) = Signed is_negative term ∷ subexpressions term
subexpressions (Sum earlier is_negative term) = Sum earlier is_negative term ∷ (subexpressions earlier ++ subexpressions term)

-- at most 2,000 terms, of degree at most 60; the degree of 0 counts as 0
abbrev pub is_small : List Term → Bool
is_small f = nat_le (length f) MAX_TERMS && nat_le (degree_of f) MAX_VALUE_DEGREE
