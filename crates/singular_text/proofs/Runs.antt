-- Runs of letters and numbers: their monomials, which are in the variables of the letters.
use Rattle.std.proofs.Common.{◌≡◌, ℕ, ◌+◌, ◌<◌, ◌≤◌, ◌%◌, List, [], ◌∷◌, Bool, true, false, cond, length, drop, get_or, refl, sym, ap, ◌∙◌, arith, suc, add-one, drop-cons, ◌||◌, ◌&&◌, ◌==◌}
use Rattle.std.proofs.lemmas.List.{drop_all}
use Rattle.std.proofs.lemmas.Bool.Decides.{nat_tests}
use Rattle.std.specs.Char.{is_ascii_digit}
use Rattle.std.specs.Prelude.{Option, None, Some, MatchOption}
use Rattle.monomials.specs.Mono.{Monomial, IsMono, total_degree, unit}
use Rattle.polys.specs.Terms.{IsPoly, IsAffine}
use Rattle.problem.specs.Letters.{is_among, place}
use Rattle.problem.proofs.Places.{place_within}
use Rattle.poly_text.specs.Raising.{raised}
use Rattle.poly_text.proofs.VariablePowers.{raised_degree, degree_kept, affine_raised}
use Rattle.problem_form.specs.Words.{are_run_bytes}
use Rattle.singular_text.specs.Values.{front_number, run_after, run_monomial, term_of}

-- ---- runs

pub run_digit : (letters : List ℕ) (m : Monomial) (b : ℕ) (word : List ℕ) → is_ascii_digit b ≡ true → run_after letters m (b ∷ word) ≡ run_after letters m word
unfolding run_after
run_digit letters m b word is = rw is refl

pub run_letter : (letters : List ℕ) (m : Monomial) (b : ℕ) (word : List ℕ) → is_ascii_digit b ≡ false
    → run_after letters m (b ∷ word) ≡ run_after letters (raised m (place letters b) (front_number word)) word
unfolding run_after
run_letter letters m b word is = rw is refl

pub run_end : (letters : List ℕ) (m : Monomial) → run_after letters m [] ≡ m
unfolding run_after
run_end letters m = refl

pub run_grows : (letters : List ℕ) (m : Monomial) (word : List ℕ) → total_degree m.exponents ≤ total_degree (run_after letters m word).exponents
run_grows letters m [] = rw (run_end letters m) (omega arith)
run_grows letters m (b ∷ word) = by_case (is_ascii_digit b) refl (run_grows letters m word) (run_grows letters (raised m (place letters b) (front_number word)) word)
  where
    by_case : (t : Bool) → is_ascii_digit b ≡ t → total_degree m.exponents ≤ total_degree (run_after letters m word).exponents
        → total_degree (raised m (place letters b) (front_number word)).exponents ≤ total_degree (run_after letters (raised m (place letters b) (front_number word)) word).exponents
        → total_degree m.exponents ≤ total_degree (run_after letters m (b ∷ word)).exponents
    by_case true is here next = rw (run_digit letters m b word is) here
    by_case false is here next =
        let kept : total_degree m.exponents ≤ total_degree (raised m (place letters b) (front_number word)).exponents = degree_kept m.exponents (place letters b) (front_number word) in
        rw (run_letter letters m b word is) (omega (arith, kept, next))

pub run_next : (letters word : List ℕ) (m : Monomial) (b i : ℕ) → i < length word → b ≡ get_or word i 0 → drop i word ≡ b ∷ drop (i + 1) word
run_next letters word m b i within is = rw (add-one, drop-cons word i 0) (ap (λ (x : ℕ). x ∷ drop (suc i) word) (sym is))

pub bytes_next : (letters word : List ℕ) (b : ℕ) → are_run_bytes letters (b ∷ word) ≡ true → are_run_bytes letters word ≡ true
bytes_next letters word b = by_case (is_ascii_digit b || is_among letters b)
  where
    by_case : (t : Bool) → (t && are_run_bytes letters word) ≡ true → are_run_bytes letters word ≡ true
    by_case true h = h
    by_case false h = absurd (cc)

pub letter_byte : (letters word : List ℕ) (b : ℕ) → are_run_bytes letters (b ∷ word) ≡ true → is_ascii_digit b ≡ false → is_among letters b ≡ true
letter_byte letters word b h no_digit = by_case (is_among letters b) refl (ap (λ (t : Bool). (t || is_among letters b) && are_run_bytes letters word) (sym no_digit) ∙ h)
  where
    by_case : (t : Bool) → is_among letters b ≡ t → (is_among letters b && are_run_bytes letters word) ≡ true → is_among letters b ≡ true
    by_case true is both = is
    by_case false is both = absurd (let e : (false && are_run_bytes letters word) ≡ true = ap (λ (t : Bool). t && are_run_bytes letters word) (sym is) ∙ both in cc)

-- ---- the steps of the code

pub none_behind : (letters behind : List ℕ) (m : Monomial) (b : ℕ) → length letters ≤ 6 → are_run_bytes letters (b ∷ behind) ≡ true → IsMono m → is_ascii_digit b ≡ false
    → 60 < total_degree m.exponents + front_number behind → 60 < total_degree (run_after letters m (b ∷ behind)).exponents
none_behind letters behind m b few bytes known no_digit large =
    let here : place letters b < length letters = place_within letters b (letter_byte letters behind b bytes no_digit) in
    let v : place letters b < 6 = omega arith in
    let degree : total_degree (raised m (place letters b) (front_number behind)).exponents ≡ total_degree m.exponents + front_number behind =
    raised_degree m (place letters b) (front_number behind) known.seven v in
    let more : total_degree (raised m (place letters b) (front_number behind)).exponents ≤ total_degree (run_after letters (raised m (place letters b) (front_number behind)) behind).exponents =
    run_grows letters (raised m (place letters b) (front_number behind)) behind in
    rw (run_letter letters m b behind no_digit) (omega arith)

pub some_behind : (letters behind : List ℕ) (m next : Monomial) (b : ℕ) → is_ascii_digit b ≡ false → next ≡ raised m (place letters b) (front_number behind)
    → run_after letters next behind ≡ run_after letters m (b ∷ behind)
some_behind letters behind m next b no_digit is = ap (λ (n : Monomial). run_after letters n behind) is ∙ sym (run_letter letters m b behind no_digit)

pub letter_place : (letters : List ℕ) (b : ℕ) → length letters ≤ 6 → is_among letters b ≡ true → place letters b < 6
letter_place letters b few among = let here : place letters b < length letters = place_within letters b among in omega arith

pub run_large : (letters word : List ℕ) (m : Monomial) (b i : ℕ) → i < length word → b ≡ get_or word i 0 → run_after letters m (drop i word) ≡ run_monomial letters word
    → 60 < total_degree (run_after letters m (b ∷ drop (i + 1) word)).exponents → 60 < total_degree (run_monomial letters word).exponents
run_large letters word m b i within is same large =
    let e : run_after letters m (b ∷ drop (i + 1) word) ≡ run_monomial letters word = ap (run_after letters m) (sym (run_next letters word m b i within is)) ∙ same in
    omega (arith, ap (λ (n : Monomial). total_degree n.exponents) e)

pub run_on : (letters word : List ℕ) (m next : Monomial) (b i : ℕ) → i < length word → b ≡ get_or word i 0 → run_after letters m (drop i word) ≡ run_monomial letters word
    → run_after letters next (drop (i + 1) word) ≡ run_after letters m (b ∷ drop (i + 1) word) → run_after letters next (drop (i + 1) word) ≡ run_monomial letters word
run_on letters word m next b i within is same step = step ∙ ap (run_after letters m) (sym (run_next letters word m b i within is)) ∙ same

pub bytes_here : (letters word : List ℕ) (b i : ℕ) → i < length word → b ≡ get_or word i 0 → are_run_bytes letters (drop i word) ≡ true
    → are_run_bytes letters (b ∷ drop (i + 1) word) ≡ true
bytes_here letters word b i within is bytes = ap (are_run_bytes letters) (sym (run_next letters word unit b i within is)) ∙ bytes

pub run_all : (letters word : List ℕ) (m : Monomial) (i : ℕ) → length word ≤ i → run_after letters m (drop i word) ≡ run_monomial letters word → m ≡ run_monomial letters word
run_all letters word m i all same = sym (run_end letters m) ∙ ap (run_after letters m) (sym (drop_all i word all)) ∙ same

pub either_behind : (letters behind : List ℕ) (m : Monomial) (b : ℕ) (o : Option Monomial) → length letters ≤ 6 → are_run_bytes letters (b ∷ behind) ≡ true → IsMono m
    → is_ascii_digit b ≡ false → MatchOption o (60 < total_degree m.exponents + front_number behind) (λ n. n ≡ raised m (place letters b) (front_number behind))
    → MatchOption o (60 < total_degree (run_after letters m (b ∷ behind)).exponents) (λ n. run_after letters n behind ≡ run_after letters m (b ∷ behind))
either_behind letters behind m b None few bytes known no_digit large = none_behind letters behind m b few bytes known no_digit large
either_behind letters behind m b (Some n) few bytes known no_digit is = some_behind letters behind m n b no_digit is

-- ---- their variables

pub affine_run : (letters : List ℕ) (m : Monomial) (word : List ℕ) → are_run_bytes letters word ≡ true → IsAffine (length letters) m → IsAffine (length letters) (run_after letters m word)
affine_run letters m [] bytes h = let e : run_after letters m [] ≡ m = run_end letters m in rw e h
affine_run letters m (b ∷ word) bytes h = by_case (is_ascii_digit b) refl (affine_run letters m word) (affine_run letters (raised m (place letters b) (front_number word)) word)
  where
    more : are_run_bytes letters word ≡ true
    more = bytes_next letters word b bytes

    by_case : (t : Bool) → is_ascii_digit b ≡ t
        → (are_run_bytes letters word ≡ true → IsAffine (length letters) m → IsAffine (length letters) (run_after letters m word))
        → (are_run_bytes letters word ≡ true → IsAffine (length letters) (raised m (place letters b) (front_number word))
        → IsAffine (length letters) (run_after letters (raised m (place letters b) (front_number word)) word))
        → IsAffine (length letters) (run_after letters m (b ∷ word))
    by_case true is here next = rw (run_digit letters m b word is) (here (bytes_next letters word b bytes) h)
    by_case false is here next =
        rw (run_letter letters m b word is)
        (next (bytes_next letters word b bytes) (affine_raised (length letters) m (place letters b) (front_number word) (place_within letters b (letter_byte letters word b bytes is)) h))

-- one term makes a polynomial
pub poly_term : (p n c : ℕ) (m : Monomial) → 0 < p → IsAffine n m → IsPoly p n (term_of p c m)
poly_term p n c m positive affine = by_case (c % p == 0) refl
  where
    by_case : (t : Bool) → (c % p == 0) ≡ t → IsPoly p n (cond t [] (record { coeff = c % p; mono = m } ∷ []))
    by_case true is = record { canonical = tt; affine = tt }
    by_case false is = record { canonical = (grind (arith, nat_tests), omega arith, tt, tt); affine = (affine, tt) }
