-- The classes of the grammar's tokens, over letters.
use Rattle.std.proofs.Common.{◌≡◌, ℕ, List, [], ◌∷◌, Bool, true, false, cond, ◌==◌, ◌&&◌, refl, arith, length}
use Rattle.std.specs.Prelude.{codes, not, nat_lt}
use Rattle.std.proofs.lemmas.Bool.Decides.{nat_tests}
use Rattle.std.specs.Char.{is_ascii_digit, is_ascii_alphabetic}
use Rattle.problem.specs.Letters.{is_among}
use Rattle.problem_form.specs.Words.{is_number, is_run, are_run_bytes, class_of_byte, class_of_mark, class_of}
use Rattle.problem_form.specs.Expressions.{sign}
use Rattle.problem_form.specs.declared.words.Class.{Class}
use Rattle.problem_form.specs.declared.words.Class.TheVariants.{Open, Close, Caret, Star, Plus, Minus, Comma, Semicolon, Number, Variable, Run}

pub open_class : (letters : List ℕ) → class_of letters (codes "(") ≡ Open
unfolding class_of class_of_byte
open_class letters = refl

pub close_class : (letters : List ℕ) → class_of letters (codes ")") ≡ Close
unfolding class_of class_of_byte
close_class letters = refl

pub caret_class : (letters : List ℕ) → class_of letters (codes "^") ≡ Caret
unfolding class_of class_of_byte
caret_class letters = refl

pub star_class : (letters : List ℕ) → class_of letters (codes "*") ≡ Star
unfolding class_of class_of_byte
star_class letters = refl

pub comma_class : (letters : List ℕ) → class_of letters (codes ",") ≡ Comma
unfolding class_of class_of_byte
comma_class letters = refl

pub semicolon_class : (letters : List ℕ) → class_of letters (codes ";") ≡ Semicolon
unfolding class_of class_of_byte
semicolon_class letters = refl

abbrev pub sign_class : Bool → Class
sign_class true = Minus
sign_class false = Plus

pub sign_has_class : (letters : List ℕ) (is_negative : Bool) → class_of letters (sign is_negative) ≡ sign_class is_negative
unfolding class_of class_of_byte
sign_has_class letters true = refl
sign_has_class letters false = refl

pub number_class : (letters digits : List ℕ) → is_number digits ≡ true → class_of letters digits ≡ Number
unfolding class_of
number_class letters digits is = rw is refl

no_number : (a b c : Bool) → ((a && b) && not c) ≡ true → c ≡ false
no_number true true true h = absurd (cc)
no_number true true false h = refl
no_number true false c h = absurd (cc)
no_number false b c h = absurd (cc)

pub run_class : (letters word : List ℕ) → is_run letters word ≡ true → class_of letters word ≡ Run
unfolding class_of
run_class letters word is = λ i. cond (none i) Number (cond (is i) Run (class_of_mark letters word))
  where
    none : is_number word ≡ false
    none = no_number (nat_lt 1 (length word)) (are_run_bytes letters word) (is_number word) is

-- a letter is no digit and no mark
pub letter_class : (letters : List ℕ) (x : ℕ) → is_ascii_alphabetic x ≡ true → is_among letters x ≡ true → class_of letters (x ∷ []) ≡ Variable
unfolding class_of class_of_byte
letter_class letters x alphabetic among = rw (no_digit, no 40 refl, no 41 refl, no 94 refl, no 42 refl, no 43 refl, no 45 refl, no 44 refl, no 59 refl, among) refl
  where
    no : (n : ℕ) → is_ascii_alphabetic n ≡ false → (x == n) ≡ false
    no n none = by_case (x == n) refl
      where
        by_case : (t : Bool) → (x == n) ≡ t → t ≡ false
        by_case false is = refl
        by_case true is = let e : x ≡ n = grind (arith, nat_tests) in absurd (cc)

    no_digit : is_ascii_digit x ≡ false
    no_digit = grind (arith, nat_tests)
