-- What a token is, by its class.
use Rattle.std.proofs.Common.{◌≡◌, ℕ, List, [], ◌∷◌, Bool, true, false, cond, ◌==◌, refl, ap}
use Rattle.std.specs.Prelude.{codes}
use Rattle.problem.proofs.Places.{same_number}
use Rattle.problem.specs.Letters.{is_among}
use Rattle.problem_form.specs.Words.{is_number, is_run, class_of_byte, class_of_mark, class_of}
use Rattle.problem_form.specs.declared.words.Class.{Class}
use Rattle.problem_form.specs.declared.words.Class.TheVariants.{Open, Close, Caret, Star, Plus, Minus, Comma, Semicolon, Number, Variable, Run, Other}

-- the token is of this class
abbrev pub IsOf : List ℕ → Class → List ℕ → Type 0
IsOf letters Open t = t ≡ codes "("
IsOf letters Close t = t ≡ codes ")"
IsOf letters Caret t = t ≡ codes "^"
IsOf letters Star t = t ≡ codes "*"
IsOf letters Plus t = t ≡ codes "+"
IsOf letters Minus t = t ≡ codes "-"
IsOf letters Comma t = t ≡ codes ","
IsOf letters Semicolon t = t ≡ codes ";"
IsOf letters Number t = is_number t ≡ true
IsOf letters Variable t = (x : ℕ) × (t ≡ x ∷ []) × (is_among letters x ≡ true)
IsOf letters Run t = is_run letters t ≡ true
IsOf letters Other t = Unit {0}

pick : (letters token : List ℕ) (t : Bool) (c rest : Class) → (t ≡ true → IsOf letters c token) → IsOf letters rest token → IsOf letters (cond t c rest) token
pick letters token true c rest first later = first refl
pick letters token false c rest first later = later

byte_is_of : (letters : List ℕ) (b : ℕ) → IsOf letters (class_of_byte letters b) (b ∷ [])
unfolding class_of_byte
byte_is_of letters b =
    pick letters (b ∷ []) (b == 40) Open _ (λ h. ap (λ (x : ℕ). x ∷ []) (same_number b 40 h))
    (pick letters (b ∷ []) (b == 41) Close _ (λ h. ap (λ (x : ℕ). x ∷ []) (same_number b 41 h))
    (pick letters (b ∷ []) (b == 94) Caret _ (λ h. ap (λ (x : ℕ). x ∷ []) (same_number b 94 h))
    (pick letters (b ∷ []) (b == 42) Star _ (λ h. ap (λ (x : ℕ). x ∷ []) (same_number b 42 h))
    (pick letters (b ∷ []) (b == 43) Plus _ (λ h. ap (λ (x : ℕ). x ∷ []) (same_number b 43 h))
    (pick letters (b ∷ []) (b == 45) Minus _ (λ h. ap (λ (x : ℕ). x ∷ []) (same_number b 45 h))
    (pick letters (b ∷ []) (b == 44) Comma _ (λ h. ap (λ (x : ℕ). x ∷ []) (same_number b 44 h))
    (pick letters (b ∷ []) (b == 59) Semicolon _ (λ h. ap (λ (x : ℕ). x ∷ []) (same_number b 59 h))
    (pick letters (b ∷ []) (is_among letters b) Variable Other (λ h. (b, refl, h)) tt))))))))

mark_is_of : (letters t : List ℕ) → IsOf letters (class_of_mark letters t) t
mark_is_of letters [] = tt
mark_is_of letters (b ∷ []) = byte_is_of letters b
mark_is_of letters (b ∷ c ∷ t) = tt

pub is_of : (letters t : List ℕ) → IsOf letters (class_of letters t) t
unfolding class_of
is_of letters t = pick letters t (is_number t) Number _ (λ h. h) (pick letters t (is_run letters t) Run _ (λ h. h) (mark_is_of letters t))
