-- What the tokens of a problem are.
use Rattle.std.specs.Prelude.{ℕ, ◌≡◌, ◌==◌, ◌&&◌, ◌||◌, nat_lt, nat_eq, not, max, suc, if◌then◌else◌, Bool, true, List, [], ◌∷◌, length}
use Rattle.std.specs.List.{list_all}
use Rattle.std.specs.Cmp.Lexicographic.{pointwise}
use Rattle.std.specs.Char.{is_ascii_digit, is_ascii_alphabetic}
use Rattle.problem.specs.Letters.{is_among}
use Rattle.problem_form.specs.Tokens.{begins}
use Rattle.problem_form.specs.declared.words.Class.{Class}
use Rattle.problem_form.specs.declared.words.Class.TheVariants.{Open, Close, Caret, Star, Plus, Minus, Comma, Semicolon, Number, Variable, Run, Other}

-- the tokens are equal
abbrev pub same_token : List ℕ → List ℕ → Bool
same_token a b = pointwise nat_eq a b

-- the number of digits at the front
unfoldable pub leading_digits : List ℕ → ℕ
leading_digits [] = 0
leading_digits (b ∷ word) = if is_ascii_digit b then suc (leading_digits word) else 0

-- the most digits in a row
unfoldable pub digits_in : List ℕ → ℕ
digits_in [] = 0
digits_in (b ∷ word) = max (leading_digits (b ∷ word)) (digits_in word)

-- a word that begins with a letter
abbrev pub is_name : List ℕ → Bool
is_name token = begins is_ascii_alphabetic token

-- one digit or more, and nothing else
abbrev pub is_number : List ℕ → Bool
is_number token = not (length token == 0) && list_all is_ascii_digit token

-- each byte is a digit or one of the letters
abbrev pub are_run_bytes : List ℕ → List ℕ → Bool
are_run_bytes letters word = list_all (λ b. is_ascii_digit b || is_among letters b) word

-- two bytes or more, each a digit or one of the letters, and at least one no digit
abbrev pub is_run : List ℕ → List ℕ → Bool
is_run letters token = nat_lt 1 (length token) && are_run_bytes letters token && not (is_number token)

-- what a single byte is in an expression over these letters
unfoldable pub class_of_byte : List ℕ → ℕ → Class
class_of_byte letters b =
    if b == 40 then Open
    else (if b == 41 then Close
    else (if b == 94 then Caret
    else (if b == 42 then Star
    else (if b == 43 then Plus
    else (if b == 45 then Minus
    else (if b == 44 then Comma
    else (if b == 59 then Semicolon
    else (if is_among letters b then Variable else Other))))))))

-- what a token of one byte is
abbrev pub class_of_mark : List ℕ → List ℕ → Class
class_of_mark letters (b ∷ []) = class_of_byte letters b
class_of_mark letters _ = Other

-- what a token is in an expression over these letters
unfoldable pub class_of : List ℕ → List ℕ → Class
class_of letters token = if is_number token then Number else (if is_run letters token then Run else class_of_mark letters token)

-- the token is one of the letters alone
abbrev pub IsLetterOf : List ℕ → List ℕ → Type 0
IsLetterOf letters (x ∷ []) = is_among letters x ≡ true
IsLetterOf letters _ = ⊥
