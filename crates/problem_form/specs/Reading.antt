-- How the ring is read: for each part a function on tokens, which gives the tokens behind the part too.
use Rattle.std.specs.Prelude.{ℕ, ◌≡◌, List, [], ◌∷◌, ◌++◌, Option, None, Some, option_and_then, codes, if◌then◌else◌}
use Rattle.std.specs.Char.{is_ascii_alphabetic}
use Rattle.problem_form.specs.Words.{same_token, is_name, is_number}

-- what a function returned, seen by view, is what reading gives
abbrev pub Gives : {X Y : Type 0} → (X → Y) → Option X → Option Y → Type 0
Gives view (Some x) read = read ≡ Some (view x)
Gives view None read = read ≡ None

abbrev pub after_token : List ℕ → List (List ℕ) → Option (List (List ℕ))
after_token word [] = None
after_token word (t ∷ ts) = if same_token t word then Some ts else None

abbrev pub after_name : List (List ℕ) → Option (List (List ℕ))
after_name [] = None
after_name (t ∷ ts) = if is_name t then Some ts else None

abbrev pub number_at : List (List ℕ) → Option (List ℕ × List (List ℕ))
number_at [] = None
number_at (t ∷ ts) = if is_number t then Some (t, ts) else None

-- behind this word, a name and `=`
unfoldable pub begun_at : List ℕ → List (List ℕ) → Option (List (List ℕ))
begun_at word ts = option_and_then (λ named. option_and_then (λ equals. after_token (codes "=") equals) (after_name named)) (after_token word ts)

abbrev pub letter_of : List ℕ → Option ℕ
letter_of (b ∷ []) = if is_ascii_alphabetic b then Some b else None
letter_of _ = None

abbrev pub letter_at : List (List ℕ) → Option (ℕ × List (List ℕ))
letter_at [] = None
letter_at (t ∷ ts) = option_and_then (λ x. Some (x, ts)) (letter_of t)

-- letters with commas up to a closing parenthesis, behind those that were read
unfoldable pub listed_at : List ℕ → List (List ℕ) → Option (List ℕ × List (List ℕ))
listed_at letters [] = None
listed_at letters (t ∷ []) = None
listed_at letters (t ∷ mark ∷ ts) =
    option_and_then
    (λ x.
    if same_token mark (codes ")") then Some (letters ++ (x ∷ []), ts)
    else (if same_token mark (codes ",") then listed_at (letters ++ (x ∷ [])) ts else None))
    (letter_of t)

abbrev pub single_at : List (List ℕ) → Option (List ℕ × List (List ℕ))
single_at ts = option_and_then (λ x. Some (x.0 ∷ [], x.1)) (letter_at ts)

abbrev pub letters_by : List (List ℕ) → Option (List (List ℕ)) → Option (List ℕ × List (List ℕ))
letters_by ts (Some listed) = listed_at [] listed
letters_by ts None = single_at ts

unfoldable pub letters_at : List (List ℕ) → Option (List ℕ × List (List ℕ))
letters_at ts = letters_by ts (after_token (codes "(") ts)

unfoldable pub ring_start : List (List ℕ) → Option (List ℕ × List (List ℕ))
ring_start ts =
    option_and_then (λ number. option_and_then (λ n. option_and_then (λ later. Some (n.0, later)) (after_token (codes ",") n.1)) (number_at number)) (begun_at (codes "ring") ts)

unfoldable pub ring_end : List (List ℕ) → Option (List (List ℕ))
ring_end ts = option_and_then (λ order. option_and_then (λ end. after_token (codes ";") end) (after_token (codes "dp") order)) (after_token (codes ",") ts)

-- the characteristic, the letters and the tokens behind the ring
unfoldable pub ring_at : List (List ℕ) → Option (List ℕ × List ℕ × List (List ℕ))
ring_at ts =
    option_and_then (λ start. option_and_then (λ named. option_and_then (λ later. Some (start.0, named.0, later)) (ring_end named.1)) (letters_at start.1)) (ring_start ts)
