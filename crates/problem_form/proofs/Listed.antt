-- The list of a ring's letters, letter by letter.
use Rattle.std.proofs.Common.{◌≡◌, ℕ, List, [], ◌∷◌, ◌++◌, Option, None, Some, true, false, cond, refl, ap, ◌∙◌}
use Rattle.std.specs.Prelude.{option_and_then, unwrap_or, codes}
use Rattle.problem_form.specs.Words.{same_token}
use Rattle.problem_form.specs.Reading.{letter_of, letter_at, listed_at}

abbrev pub before : List (List ℕ) → ℕ → Option (ℕ × List (List ℕ))
before rest y = Some (y, rest)

first_same : (x y : ℕ) (u v : List (List ℕ)) → before u x ≡ before v y → x ≡ y
first_same x y u v h = ap (λ (o : Option (ℕ × List (List ℕ))). (unwrap_or o (x, u)).0) h

second_same : (x y : ℕ) (u v : List (List ℕ)) → before u x ≡ before v y → u ≡ v
second_same x y u v h = ap (λ (o : Option (ℕ × List (List ℕ))). (unwrap_or o (x, u)).1) h

-- what a letter and the mark behind it give
abbrev pub listed_by : List ℕ → ℕ → List ℕ → List (List ℕ) → Option (List ℕ × List (List ℕ))
listed_by letters x mark later =
    cond (same_token mark (codes ")")) (Some (letters ++ (x ∷ []), later)) (cond (same_token mark (codes ",")) (listed_at (letters ++ (x ∷ [])) later) None)

listed_next : (letters t mark : List ℕ) (later : List (List ℕ)) → listed_at letters (t ∷ mark ∷ later) ≡ option_and_then (λ (x : ℕ). listed_by letters x mark later) (letter_of t)
unfolding listed_at
listed_next letters t mark later = refl

pub listed_on : (letters : List ℕ) (ts rest later : List (List ℕ)) (x : ℕ) (mark : List ℕ) → letter_at ts ≡ Some (x, rest) → rest ≡ mark ∷ later
    → listed_at letters ts ≡ listed_by letters x mark later
listed_on letters [] rest later x mark is then = absurd (cc)
listed_on letters (t ∷ []) rest later x mark is then = by_case (letter_of t) is
  where
    by_case : (o : Option ℕ) → option_and_then (before ([])) o ≡ Some (x, rest) → listed_at letters (t ∷ []) ≡ listed_by letters x mark later
    by_case None h = absurd (cc)
    by_case (Some y) h = let none : [] ≡ rest = second_same y x [] rest h in absurd (cc)
listed_on letters (t ∷ m ∷ ms) rest later x mark is then = listed_next letters t m ms ∙ by_case (letter_of t) is
  where
    by_case : (o : Option ℕ) → option_and_then (before (m ∷ ms)) o ≡ Some (x, rest)
        → option_and_then (λ (y : ℕ). listed_by letters y m ms) o ≡ listed_by letters x mark later
    by_case None h = absurd (cc)
    by_case (Some y) h =
        let first : y ≡ x = first_same y x (m ∷ ms) rest h in
        let both : m ∷ ms ≡ rest = second_same y x (m ∷ ms) rest h in
        let second : m ≡ mark = cc in
        let third : ms ≡ later = cc in
        λ i. listed_by letters (first i) (second i) (third i)

pub listed_ends : (letters : List ℕ) (ts rest : List (List ℕ)) (x : ℕ) → letter_at ts ≡ Some (x, rest) → rest ≡ [] → listed_at letters ts ≡ None
unfolding listed_at
listed_ends letters [] rest x is then = refl
listed_ends letters (t ∷ []) rest x is then = refl
listed_ends letters (t ∷ m ∷ ms) rest x is then = by_case (letter_of t) is
  where
    by_case : (o : Option ℕ) → option_and_then (before (m ∷ ms)) o ≡ Some (x, rest) → option_and_then (λ (y : ℕ). listed_by letters y m ms) o ≡ None
    by_case None h = refl
    by_case (Some y) h = let some : m ∷ ms ≡ rest = second_same y x (m ∷ ms) rest h in absurd (cc)

pub listed_off : (letters : List ℕ) (ts : List (List ℕ)) → letter_at ts ≡ None → listed_at letters ts ≡ None
unfolding listed_at
listed_off letters [] is = refl
listed_off letters (t ∷ []) is = refl
listed_off letters (t ∷ m ∷ ms) is = by_case (letter_of t) is
  where
    by_case : (o : Option ℕ) → option_and_then (before (m ∷ ms)) o ≡ None → option_and_then (λ (y : ℕ). listed_by letters y m ms) o ≡ None
    by_case None h = refl
    by_case (Some y) h = absurd (cc)

pub by_close : (letters : List ℕ) (x : ℕ) (mark : List ℕ) (later : List (List ℕ)) → same_token mark (codes ")") ≡ true → listed_by letters x mark later ≡ Some (letters ++ (x ∷ []), later)
by_close letters x mark later is = rw is refl

pub by_comma : (letters : List ℕ) (x : ℕ) (mark : List ℕ) (later : List (List ℕ)) → same_token mark (codes ")") ≡ false → same_token mark (codes ",") ≡ true
    → listed_by letters x mark later ≡ listed_at (letters ++ (x ∷ [])) later
by_comma letters x mark later no_close is = rw (no_close, is) refl

pub by_other : (letters : List ℕ) (x : ℕ) (mark : List ℕ) (later : List (List ℕ)) → same_token mark (codes ")") ≡ false → same_token mark (codes ",") ≡ false
    → listed_by letters x mark later ≡ None
by_other letters x mark later no_close no_comma = rw (no_close, no_comma) refl
