-- Where letters stand, and that they are no digits.
use Rattle.std.proofs.Common.{◌≡◌, ℕ, ◌<◌, ◌≤◌, List, [], ◌∷◌, Bool, true, false, cond, ◌==◌, ◌||◌, ◌&&◌, length, suc, refl, sym, ap, ◌∙◌, arith, inl, inr}
use Rattle.std.specs.Prelude.{All}
use Rattle.std.specs.Char.{is_ascii_alphabetic, is_ascii_digit}
use Rattle.std.specs.List.{list_all}
use Rattle.std.proofs.lemmas.Bool.Decides.{nat_tests}
use Rattle.std.proofs.lemmas.List.Sums.{list_all-from_AllPass}
use Rattle.problem.specs.Letters.{IsLetter, is_among, place}

-- ---- what letters are

letter_is : (x : ℕ) → IsLetter x → is_ascii_alphabetic x ≡ true
letter_is x (inl h) = grind (arith, nat_tests)
letter_is x (inr h) = grind (arith, nat_tests)

pub all_alphabetic : (letters : List ℕ) → All IsLetter letters → list_all is_ascii_alphabetic letters ≡ true
all_alphabetic letters each = list_all-from_AllPass is_ascii_alphabetic letters (λ k d within. letter_is _ (each k d within))

-- numbers that the test finds equal are equal
pub same_number : (x y : ℕ) → (x == y) ≡ true → x ≡ y
same_number x y is = grind (arith, nat_tests)

among_alphabetic : (letters : List ℕ) (x : ℕ) → list_all is_ascii_alphabetic letters ≡ true → is_among letters x ≡ true → is_ascii_alphabetic x ≡ true
among_alphabetic [] x all among = absurd (cc)
among_alphabetic (y ∷ letters) x all among = by_case (y == x) (is_ascii_alphabetic y) refl refl all among (among_alphabetic letters x)
  where
    by_case : (b a : Bool) → (y == x) ≡ b → is_ascii_alphabetic y ≡ a → (a && list_all is_ascii_alphabetic letters) ≡ true → (b || is_among letters x) ≡ true
        → (list_all is_ascii_alphabetic letters ≡ true → is_among letters x ≡ true → is_ascii_alphabetic x ≡ true) → is_ascii_alphabetic x ≡ true
    by_case true true is alphabetic h g more = ap is_ascii_alphabetic (sym (same_number y x is)) ∙ alphabetic
    by_case true false is alphabetic h g more = absurd (cc)
    by_case false true is alphabetic h g more = more h g
    by_case false false is alphabetic h g more = absurd (cc)

pub letters_alphabetic : (letters : List ℕ) → All IsLetter letters → (x : ℕ) → is_among letters x ≡ true → is_ascii_alphabetic x ≡ true
letters_alphabetic letters each x among = among_alphabetic letters x (all_alphabetic letters each) among

pub letter_no_digit : (b : ℕ) → is_ascii_alphabetic b ≡ true → is_ascii_digit b ≡ false
letter_no_digit b is = grind (arith, nat_tests)

-- ---- their places

pub place_within : (letters : List ℕ) (b : ℕ) → is_among letters b ≡ true → place letters b < length letters
place_within [] b h = absurd (cc)
place_within (x ∷ letters) b h = by_case (x == b) refl (place_within letters b)
  where
    by_case : (t : Bool) → (x == b) ≡ t → (is_among letters b ≡ true → place letters b < length letters) → cond (x == b) 0 (suc (place letters b)) < suc (length letters)
    by_case true is more = rw is (omega arith)
    by_case false is more =
        let rest : is_among letters b ≡ true = ap (λ (t : Bool). t || is_among letters b) (sym is) ∙ h in
        let w : place letters b < length letters = more rest in
        rw is (omega arith)

pub place_most : (letters : List ℕ) (b : ℕ) → place letters b ≤ length letters
place_most [] b = omega arith
place_most (x ∷ letters) b = by_case (x == b) (place_most letters b)
  where
    by_case : (t : Bool) → place letters b ≤ length letters → cond t 0 (suc (place letters b)) ≤ suc (length letters)
    by_case true h = omega arith
    by_case false h = omega arith
