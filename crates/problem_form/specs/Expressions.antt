-- Expressions as trees, and the tokens that spell them.
use Rattle.std.specs.Prelude.{ℕ, ◌≡◌, ◌+◌, ◌≤◌, max, length, codes, if◌then◌else◌, Bool, IsTrue, List, [], ◌∷◌, ◌++◌}
use Rattle.problem.specs.Letters.{is_among}
use Rattle.problem_form.specs.Words.{is_number, is_run, digits_in}

-- an expression as a tree. The grammar has bases (letters, numbers, parentheses), factors (runs and bases, also with an
-- exponent), terms (products of factors) and expressions (sums of terms, where the first may have a sign)
pub data Expression : Type 0 where
  Letter : (x : ℕ) → Expression
  Number : (digits : List ℕ) → Expression
  Parentheses : (inner : Expression) → Expression
  Run : (word : List ℕ) → Expression
  Power : (base : Expression) → (exponent : List ℕ) → Expression
  Product : (term factor : Expression) → Expression
  Signed : (is_negative : Bool) → (term : Expression) → Expression
  Sum : (earlier : Expression) → (is_negative : Bool) → (term : Expression) → Expression

-- 0 for a base, 1 for a factor, 2 for a term, 3 for an expression; each of these is one of the later too
abbrev pub rank : Expression → ℕ
rank (Letter x) = 0
rank (Number digits) = 0
rank (Parentheses inner) = 0
rank (Run word) = 1
rank (Power base exponent) = 1
rank (Product term factor) = 2
rank (Signed is_negative term) = 3
rank (Sum earlier is_negative term) = 3

-- each part is of the kind that the grammar wants there, and each letter is a variable
abbrev pub IsFormed : List ℕ → Expression → Type 0
IsFormed letters (Letter x) = IsTrue (is_among letters x)
IsFormed letters (Number digits) = IsTrue (is_number digits)
IsFormed letters (Parentheses inner) = IsFormed letters inner
IsFormed letters (Run word) = IsTrue (is_run letters word)
IsFormed letters (Power base exponent) = (rank base ≡ 0) × IsFormed letters base × IsTrue (is_number exponent)
IsFormed letters (Product term factor) = (rank term ≤ 2) × IsFormed letters term × (rank factor ≤ 1) × IsFormed letters factor
IsFormed letters (Signed is_negative term) = (rank term ≤ 2) × IsFormed letters term
IsFormed letters (Sum earlier is_negative term) = IsFormed letters earlier × (rank term ≤ 2) × IsFormed letters term

abbrev pub sign : Bool → List ℕ
sign is_negative = if is_negative then codes "-" else codes "+"

-- the tokens of an expression
abbrev pub spelling : Expression → List (List ℕ)
spelling (Letter x) = (x ∷ []) ∷ []
spelling (Number digits) = digits ∷ []
spelling (Parentheses inner) = codes "(" ∷ (spelling inner ++ (codes ")" ∷ []))
spelling (Run word) = word ∷ []
spelling (Power base exponent) = spelling base ++ (codes "^" ∷ exponent ∷ [])
spelling (Product term factor) = spelling term ++ (codes "*" ∷ spelling factor)
spelling (Signed is_negative term) = sign is_negative ∷ spelling term
spelling (Sum earlier is_negative term) = spelling earlier ++ (sign is_negative ∷ spelling term)

-- the most open parentheses at one place
abbrev pub nesting : Expression → ℕ
nesting (Letter x) = 0
nesting (Number digits) = 0
nesting (Parentheses inner) = nesting inner + 1
nesting (Run word) = 0
nesting (Power base exponent) = nesting base
nesting (Product term factor) = max (nesting term) (nesting factor)
nesting (Signed is_negative term) = nesting term
nesting (Sum earlier is_negative term) = max (nesting earlier) (nesting term)

-- the most digits of a number
abbrev pub most_digits : Expression → ℕ
most_digits (Letter x) = 0
most_digits (Number digits) = length digits
most_digits (Parentheses inner) = most_digits inner
most_digits (Run word) = digits_in word
most_digits (Power base exponent) = max (most_digits base) (length exponent)
most_digits (Product term factor) = max (most_digits term) (most_digits factor)
most_digits (Signed is_negative term) = most_digits term
most_digits (Sum earlier is_negative term) = max (most_digits earlier) (most_digits term)
