-- What pieces of code were told of what they read.
use Rattle.std.proofs.Common.{◌≡◌, ℕ, ◌≤◌, min, List, [], ◌∷◌, ◌++◌, length, drop, append_assoc, Bool, true, false, Option, None, Some, Result, refl, sym, ap, subst, ◌∙◌, arith}
use Rattle.std.specs.Prelude.{codes, decimal, is_some, IfSome, MatchOption, ok_or, Ok, Err, IsTrue}
use Rattle.std.specs.Result.{IsErr, IsErrAnd}
use Rattle.std.specs.Str.{bytes_eq}
use Rattle.std.specs.List.{All}
use Rattle.std.proofs.lemmas.List.Elements.{All-append, All-cons, All-nil}
use Rattle.norm_text.specs.declared.reading.AnswerFault.{AnswerFault}
use Rattle.norm_text.specs.declared.reading.AnswerFault.TheVariants.{NotAnswer, Memory}
use Rattle.poly_text.specs.Digits.{number}
use Rattle.norm_text.specs.Reading.{IsReadUnlessFull}
use Rattle.norm_text.specs.Answer.{line, first_line, named_line}
use Rattle.norm_text.specs.Cutting.{until, behind}
use Rattle.norm_text.proofs.Cuts.{Free, free_of, line_end, decimal_piece, line_field, line_behind, number_decimal}

-- what is there where it has to be is read
pub option_read : {T : Type 0} (o : Option T) (r : Result T AnswerFault) (A : Type 0) (P Q : T → Type 0) → r ≡ ok_or o NotAnswer → MatchOption o (A → ⊥) P → A
    → ((x : T) → P x → Q x) → IsReadUnlessFull r Q
option_read None r A P Q e refuses a weaker = absurd (refuses a)
option_read (Some x) r A P Q e h a weaker = subst (λ s. IsReadUnlessFull s Q) (sym e) (weaker x h)

-- a fault that is handed on
pub failed : {T : Type 0} (r : Result T AnswerFault) (fault : AnswerFault) (P : T → Type 0) → IsErr r × IsErrAnd r (λ e. e ≡ fault) → fault ≡ Memory → IsReadUnlessFull r P
failed (Ok x) fault P h e = absurd (cc (h.0))
failed (Err f) fault P h e = h.1 ∙ e

-- what a test found not to be so is not so
pub refuted : (b : Bool) (A : Type 0) → b ≡ false → (A → IsTrue b) → A → ⊥
refuted b A is tells a = absurd (let e : true ≡ false = sym (tells a) ∙ is in cc)

-- items of one kind, and one more
pub one_more : {X : Type 0} (P : X → Type 0) (items more : List X) (x : X) → more ≡ items ++ (x ∷ []) → All P items → P x → All P more
one_more P items more x e h k = subst (All P) (sym e) (All-append P items (x ∷ []) h (All-cons P x [] k (All-nil P)))

-- the number that is read of a number's digits
pub number_read : (digits : List ℕ) (n r : ℕ) → n ≤ 60000 → digits ≡ decimal n → r ≡ min (number digits) 99999 → r ≡ n
number_read digits n r small e is =
    let same : number digits ≡ n = ap number e ∙ number_decimal n small in
    omega arith

-- what is read of a line
pub line_read : (word inner rest bytes f r : List ℕ) → Free 10 word → Free 10 inner → bytes ≡ line word inner ++ rest → f ≡ drop (length word) (until 10 bytes) → r ≡ behind 10 bytes
    → (f ≡ inner) × (r ≡ rest)
line_read word inner rest bytes f r h k e is_f is_r = (
  is_f ∙ ap (λ (t : List ℕ). drop (length word) (until 10 t)) e ∙ line_field word inner rest h k,
  is_r ∙ ap (behind 10) e ∙ line_behind word inner rest h k,
)

-- ---- the version

pub version_second : (named : Option ℕ) (rest : List ℕ) → bytes_eq (until 10 (first_line named ++ rest)) (codes "locnormal 2") ≡ is_some named
version_second None rest = refl
version_second (Some n) rest = refl

pub version_behind : (named : Option ℕ) (rest : List ℕ) → behind 10 (first_line named ++ rest) ≡ rest
version_behind None rest = refl
version_behind (Some n) rest = refl

-- the line of the named points, where there is one
pub named_read : (named : Option ℕ) (is_second : Bool) (rest bytes f r : List ℕ) (n : ℕ) → IfSome named (λ k. k ≤ 256) → is_second ≡ true → is_second ≡ is_some named
    → bytes ≡ named_line named ++ rest → f ≡ drop 6 (until 10 bytes) → r ≡ behind 10 bytes → n ≡ min (number f) 99999 → (Some n ≡ named) × (r ≡ rest)
named_read None is_second rest bytes f r n small holds is e is_f is_r is_n = absurd (cc)
named_read (Some k) is_second rest bytes f r n small holds is e is_f is_r is_n =
    let w = line_read (codes "named ") (decimal k) rest bytes f r (free_of 10 (codes "named ") refl) (decimal_piece 10 line_end k (omega arith)).free e is_f is_r in
    (ap Some (number_read f k n (omega arith) w.0 is_n), w.1)

pub head_parts : (first a b c d named rest : List ℕ) → (first ++ a ++ b ++ c ++ d ++ named) ++ rest ≡ first ++ (a ++ (b ++ (c ++ (d ++ (named ++ rest)))))
head_parts first a b c d named rest = simp append_assoc
