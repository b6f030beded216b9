-- Bytes that are cut at a mark.
use Rattle.std.proofs.Common.{◌≡◌, ◌≢◌, ℕ, ◌+◌, ◌*◌, ◌-◌, ◌/◌, ◌%◌, ◌<◌, ◌≤◌, ◌==◌, min, List, [], ◌∷◌, ◌++◌, Bool, true, false, cond, length, take, drop, get_or, refl, sym, ap, ◌∙◌, arith, append_assoc, add-one, take-suc}
use Rattle.std.specs.Prelude.{decimal}
use Rattle.std.proofs.lemmas.Bool.Decides.{nat_tests}
use Rattle.std.proofs.lemmas.Fmt.{decimal_by_steps}
use Rattle.poly_text.specs.Digits.{number, number_after}
use Rattle.norm_text.specs.Answer.{line}
use Rattle.norm_text.specs.Cutting.{until, behind}

-- no byte is the mark
abbrev pub Free : ℕ → List ℕ → Type 0
Free m [] = Unit {0}
Free m (b ∷ bytes) = (b ≢ m) × Free m bytes

pub free_append : (m : ℕ) (a b : List ℕ) → Free m a → Free m b → Free m (a ++ b)
free_append m [] b h k = k
free_append m (x ∷ a) b h k = (h.0, free_append m a b h.1 k)

-- the test that literals pass
abbrev pub is_free : ℕ → List ℕ → Bool
is_free m [] = true
is_free m (b ∷ bytes) = cond (b == m) false (is_free m bytes)

pub free_of : (m : ℕ) (bytes : List ℕ) → is_free m bytes ≡ true → Free m bytes
free_of m [] e = tt
free_of m (b ∷ bytes) e = by_case (b == m) refl e (free_of m bytes)
  where
    differ : (b == m) ≡ false → b ≢ m
    differ is same = let yes : (b == m) ≡ true = grind (arith, nat_tests, same) in absurd (cc)

    by_case : (t : Bool) → (b == m) ≡ t → cond t false (is_free m bytes) ≡ true → (is_free m bytes ≡ true → Free m bytes) → (b ≢ m) × Free m bytes
    by_case true is h more = absurd (cc)
    by_case false is h more = (differ is, more h)

unequal : (b m : ℕ) → b ≢ m → (b == m) ≡ false
unequal b m differ = grind (arith, nat_tests)

equal : (m : ℕ) → (m == m) ≡ true
equal m = grind (arith, nat_tests)

-- ---- cuts

module _ (m : ℕ) where
  pub until_mark : (a rest : List ℕ) → Free m a → until m (a ++ (m ∷ rest)) ≡ a
  until_mark [] rest h = ap (λ (t : Bool). cond t [] (m ∷ until m rest)) (equal m)
  until_mark (x ∷ a) rest h =
      ap (λ (t : Bool). cond t [] (x ∷ until m (a ++ (m ∷ rest)))) (unequal x m h.0) ∙ ap (λ (t : List ℕ). x ∷ t) (until_mark a rest h.1)

  pub behind_mark : (a rest : List ℕ) → Free m a → behind m (a ++ (m ∷ rest)) ≡ rest
  behind_mark [] rest h = ap (λ (t : Bool). cond t rest (behind m rest)) (equal m)
  behind_mark (x ∷ a) rest h =
      ap (λ (t : Bool). cond t (a ++ (m ∷ rest)) (behind m (a ++ (m ∷ rest)))) (unequal x m h.0) ∙ behind_mark a rest h.1

  pub until_all : (a : List ℕ) → Free m a → until m a ≡ a
  until_all [] h = refl
  until_all (x ∷ a) h = ap (λ (t : Bool). cond t [] (x ∷ until m a)) (unequal x m h.0) ∙ ap (λ (t : List ℕ). x ∷ t) (until_all a h.1)

  pub behind_all : (a : List ℕ) → Free m a → behind m a ≡ []
  behind_all [] h = refl
  behind_all (x ∷ a) h = ap (λ (t : Bool). cond t a (behind m a)) (unequal x m h.0) ∙ behind_all a h.1

pub drop_front : (a b : List ℕ) → drop (length a) (a ++ b) ≡ b
drop_front [] b = refl
drop_front (x ∷ a) b = drop_front a b

-- ---- lines

pub line_mark : (word inner rest : List ℕ) → line word inner ++ rest ≡ (word ++ inner) ++ (10 ∷ rest)
line_mark word inner rest = simp append_assoc

pub line_field : (word inner rest : List ℕ) → Free 10 word → Free 10 inner → drop (length word) (until 10 (line word inner ++ rest)) ≡ inner
line_field word inner rest h k =
    ap (λ (t : List ℕ). drop (length word) (until 10 t)) (line_mark word inner rest)
    ∙ ap (drop (length word)) (until_mark 10 (word ++ inner) rest (free_append 10 word inner h k))
    ∙ drop_front word inner

pub line_behind : (word inner rest : List ℕ) → Free 10 word → Free 10 inner → behind 10 (line word inner ++ rest) ≡ rest
line_behind word inner rest h k = ap (behind 10) (line_mark word inner rest) ∙ behind_mark 10 (word ++ inner) rest (free_append 10 word inner h k)

-- ---- numbers

number_push : (n d : ℕ) (ds : List ℕ) → number_after n (ds ++ (d ∷ [])) ≡ number_after n ds * 10 + (d - 48)
number_push n d [] = refl
number_push n d (x ∷ ds) = number_push (n * 10 + (x - 48)) d ds

pub number_next : (ds : List ℕ) (n i e now most : ℕ) → i < length ds → n ≡ min (number (take i ds)) most → e ≡ get_or ds i 0 - 48 → now ≡ min (n * 10 + e) most
    → now ≡ min (number (take (i + 1) ds)) most
number_next ds n i e now most within is is_e is_now =
    let next : take (i + 1) ds ≡ take i ds ++ (get_or ds i 0 ∷ []) = rw add-one (take-suc ds i 0 within) in
    let more : number (take (i + 1) ds) ≡ number (take i ds) * 10 + (get_or ds i 0 - 48) =
    ap number next ∙ number_push 0 (get_or ds i 0) (take i ds)
    in
    omega arith

-- a mark is no digit, no letter and no sign
pub record IsMark (m : ℕ) : Type 0 where
  pub digit : (d : ℕ) → 48 ≤ d → d ≤ 57 → d ≢ m
  pub letter : (d : ℕ) → 65 ≤ d → d ≤ 122 → d ≢ m
  pub star : 42 ≢ m
  pub plus : 43 ≢ m
  pub minus : 45 ≢ m

pub line_end : IsMark 10
line_end = record { digit = λ d a b e. omega arith; letter = λ d a b e. omega arith; star = λ e. omega arith; plus = λ e. omega arith; minus = λ e. omega arith }

pub comma : IsMark 44
comma = record { digit = λ d a b e. omega arith; letter = λ d a b e. omega arith; star = λ e. omega arith; plus = λ e. omega arith; minus = λ e. omega arith }

pub semicolon : IsMark 59
semicolon = record { digit = λ d a b e. omega arith; letter = λ d a b e. omega arith; star = λ e. omega arith; plus = λ e. omega arith; minus = λ e. omega arith }

-- a text of some bytes, none of them the mark
pub record IsPiece (m : ℕ) (text : List ℕ) : Type 0 where
  pub free : Free m text
  pub some : 0 < length text

pub front_piece : (m : ℕ) (a b : List ℕ) → IsPiece m a → Free m b → IsPiece m (a ++ b)
front_piece m [] b h k = let some : 0 < 0 = h.some in absurd (omega arith)
front_piece m (x ∷ a) b h k = record { free = free_append m (x ∷ a) b h.free k; some = omega arith }

pub back_piece : (m : ℕ) (a b : List ℕ) → Free m a → IsPiece m b → IsPiece m (a ++ b)
back_piece m [] b h k = k
back_piece m (x ∷ a) b h k = record { free = free_append m (x ∷ a) b h k.free; some = omega arith }

module _ (m : ℕ) (mark : IsMark m) where
  one_digit : (n : ℕ) → n < 10 → IsPiece m ((48 + n) ∷ [])
  one_digit n h = record { free = (mark.digit (48 + n) (omega arith) (omega arith), tt); some = omega arith }

  more_digits : (n : ℕ) (ds : List ℕ) → 10 ≤ n → IsPiece m ds → IsPiece m (ds ++ ((48 + n % 10) ∷ []))
  more_digits n ds h k = front_piece m ds ((48 + n % 10) ∷ []) k (mark.digit (48 + n % 10) (omega arith) (omega arith), tt)

  pub decimal_piece : (n : ℕ) → n ≤ 60000 → IsPiece m (decimal n)
  decimal_piece n small = decimal_by_steps (λ k ds. IsPiece m ds) one_digit more_digits n (omega arith)

one_number : (n : ℕ) → n < 10 → number ((48 + n) ∷ []) ≡ n
one_number n h = omega arith

more_number : (n : ℕ) (ds : List ℕ) → 10 ≤ n → number ds ≡ n / 10 → number (ds ++ ((48 + n % 10) ∷ [])) ≡ n
more_number n ds h e = number_push 0 (48 + n % 10) ds ∙ (let f : number_after 0 ds ≡ n / 10 = e in omega arith)

pub number_decimal : (n : ℕ) → n ≤ 60000 → number (decimal n) ≡ n
number_decimal n small = decimal_by_steps (λ k ds. number ds ≡ k) one_number more_number n (omega arith)

pub decimals_tell : (n k : ℕ) → n ≤ 60000 → k ≤ 60000 → decimal n ≡ decimal k → n ≡ k
decimals_tell n k small few e = sym (number_decimal n small) ∙ ap number e ∙ number_decimal k few
