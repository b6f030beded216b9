-- What follows from a token's class.
use Rattle.std.proofs.Common.{◌≡◌, ℕ, List, [], ◌∷◌, Bool, true, false, cond, ◌==◌, refl, sym}
use Rattle.problem.specs.Letters.{is_among}
use Rattle.problem_form.specs.Words.{is_number, is_run, class_of_byte, class_of_mark, class_of, IsLetterOf}
use Rattle.problem_form.specs.declared.words.Class.{Class}
use Rattle.problem_form.specs.declared.words.Class.TheVariants.{Number, Variable, Run, Other}

skip : (t : Bool) (a b c : Class) → (a ≡ c → ⊥) → cond t a b ≡ c → b ≡ c
skip true a b c other h = absurd (other h)
skip false a b c other h = h

byte_variable : (letters : List ℕ) (b : ℕ) → class_of_byte letters b ≡ Variable → is_among letters b ≡ true
unfolding class_of_byte
byte_variable letters b h =
    last (is_among letters b) refl
    (skip (b == 59) _ _ _ (λ e. cc) (skip (b == 44) _ _ _ (λ e. cc) (skip (b == 45) _ _ _ (λ e. cc) (skip (b == 43) _ _ _ (λ e. cc)
    (skip (b == 42) _ _ _ (λ e. cc) (skip (b == 94) _ _ _ (λ e. cc) (skip (b == 41) _ _ _ (λ e. cc) (skip (b == 40) _ _ _ (λ e. cc) h))))))))
  where
    last : (t : Bool) → is_among letters b ≡ t → cond t Variable Other ≡ Variable → is_among letters b ≡ true
    last true is e = is
    last false is e = absurd (cc)

byte_no_run : (letters : List ℕ) (b : ℕ) → class_of_byte letters b ≡ Run → ⊥
unfolding class_of_byte
byte_no_run letters b h =
    last (is_among letters b)
    (skip (b == 59) _ _ _ (λ e. cc) (skip (b == 44) _ _ _ (λ e. cc) (skip (b == 45) _ _ _ (λ e. cc) (skip (b == 43) _ _ _ (λ e. cc)
    (skip (b == 42) _ _ _ (λ e. cc) (skip (b == 94) _ _ _ (λ e. cc) (skip (b == 41) _ _ _ (λ e. cc) (skip (b == 40) _ _ _ (λ e. cc) h))))))))
  where
    last : (t : Bool) → cond t Variable Other ≡ Run → ⊥
    last true e = cc
    last false e = cc

pub class_run : (letters token : List ℕ) → Run ≡ class_of letters token → is_run letters token ≡ true
unfolding class_of
class_run letters token h = by_case (is_run letters token) refl (skip (is_number token) Number _ Run (λ e. cc) (sym h))
  where
    no_mark : (t : List ℕ) → class_of_mark letters t ≡ Run → ⊥
    no_mark [] e = cc
    no_mark (b ∷ []) e = byte_no_run letters b e
    no_mark (b ∷ c ∷ t) e = cc

    by_case : (t : Bool) → is_run letters token ≡ t → cond t Run (class_of_mark letters token) ≡ Run → is_run letters token ≡ true
    by_case true is e = is
    by_case false is e = absurd (no_mark token e)

pub class_variable : (letters token : List ℕ) → Variable ≡ class_of letters token → IsLetterOf letters token
unfolding class_of
class_variable letters token h = mark token (skip (is_run letters token) Run _ Variable (λ e. cc) (skip (is_number token) Number _ Variable (λ e. cc) (sym h)))
  where
    mark : (t : List ℕ) → class_of_mark letters t ≡ Variable → IsLetterOf letters t
    mark [] e = absurd (cc)
    mark (b ∷ []) e = byte_variable letters b e
    mark (b ∷ c ∷ t) e = absurd (cc)
