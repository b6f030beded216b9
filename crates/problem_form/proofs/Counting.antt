-- The most digits in a row, counted from the front.
use Rattle.std.proofs.Common.{◌≡◌, ℕ, ◌+◌, ◌<◌, ◌≤◌, max, List, [], ◌∷◌, Bool, true, false, cond, length, drop, refl, sym, ap, ◌∙◌, arith, suc, get_or, add-one, drop-cons}
use Rattle.std.proofs.lemmas.List.{drop_all}
use Rattle.std.specs.Char.{is_ascii_digit}
use Rattle.problem_form.specs.Words.{leading_digits, digits_in}

pub leading_within : (word : List ℕ) → leading_digits word ≤ digits_in word
unfolding leading_digits digits_in
leading_within [] = omega arith
leading_within (b ∷ word) = omega arith

-- what is counted of a word of which this is left
abbrev pub counted : ℕ → ℕ → List ℕ → ℕ
counted most count rest = max most (max (count + leading_digits rest) (digits_in rest))

pub counted_first : (word : List ℕ) → counted 0 0 word ≡ digits_in word
counted_first word = let h : leading_digits word ≤ digits_in word = leading_within word in omega arith

pub counted_last : (most count : ℕ) → count ≤ most → counted most count [] ≡ most
unfolding leading_digits digits_in
counted_last most count h = omega arith

digit_case : (b : ℕ) (word : List ℕ) (t : Bool) → is_ascii_digit b ≡ t → leading_digits (b ∷ word) ≡ cond t (suc (leading_digits word)) 0
unfolding leading_digits
digit_case b word t is = ap (λ (t : Bool). cond t (suc (leading_digits word)) 0) is

digits_next : (b : ℕ) (word : List ℕ) → digits_in (b ∷ word) ≡ max (leading_digits (b ∷ word)) (digits_in word)
unfolding digits_in
digits_next b word = refl

pub counted_digit : (most count b : ℕ) (rest : List ℕ) → is_ascii_digit b ≡ true → counted (max (count + 1) most) (count + 1) rest ≡ counted most count (b ∷ rest)
counted_digit most count b rest is =
    let e : leading_digits (b ∷ rest) ≡ suc (leading_digits rest) = digit_case b rest true is in
    let d : digits_in (b ∷ rest) ≡ max (leading_digits (b ∷ rest)) (digits_in rest) = digits_next b rest in
    omega arith

pub counted_other : (most count b : ℕ) (rest : List ℕ) → count ≤ most → is_ascii_digit b ≡ false → counted (max 0 most) 0 rest ≡ counted most count (b ∷ rest)
counted_other most count b rest h is =
    let e : leading_digits (b ∷ rest) ≡ 0 = digit_case b rest false is in
    let d : digits_in (b ∷ rest) ≡ max (leading_digits (b ∷ rest)) (digits_in rest) = digits_next b rest in
    let w : leading_digits rest ≤ digits_in rest = leading_within rest in
    omega arith

-- one byte more
pub counted_next : (word : List ℕ) (i most count next b now : ℕ) → counted most count (drop i word) ≡ digits_in word → i < length word → count ≤ most
    → b ≡ get_or word i 0 → next ≡ cond (is_ascii_digit b) (count + 1) 0 → now ≡ max next most → counted now next (drop (i + 1) word) ≡ digits_in word
counted_next word i most count next b now whole within h here is is_now =
    rw (is_now, is) (by_case (is_ascii_digit b) refl ∙ ap (counted most count) (sym (rw (add-one, drop-cons word i 0) (ap (λ (x : ℕ). x ∷ drop (suc i) word) (sym here)))) ∙ whole)
  where
    by_case : (t : Bool) → is_ascii_digit b ≡ t
        → counted (max (cond t (count + 1) 0) most) (cond t (count + 1) 0) (drop (i + 1) word) ≡ counted most count (b ∷ drop (i + 1) word)
    by_case true digit = counted_digit most count b (drop (i + 1) word) digit
    by_case false digit = counted_other most count b (drop (i + 1) word) h digit

pub counted_all : (word : List ℕ) (i most count : ℕ) → counted most count (drop i word) ≡ digits_in word → length word ≤ i → count ≤ most → most ≡ digits_in word
counted_all word i most count whole all h = sym (counted_last most count h) ∙ ap (counted most count) (sym (drop_all i word all)) ∙ whole
