-- The text of a polynomial is read back as the polynomial.
use Rattle.std.proofs.Common.{◌≡◌, ◌≢◌, ℕ, ◌+◌, ◌*◌, ◌-◌, ◌/◌, ◌%◌, ◌<◌, ◌≤◌, min, List, [], ◌∷◌, ◌++◌, Bool, true, false, cond, length, set, get_or, Option, None, Some, zero, suc, refl, sym, ap, subst, ◌∙◌, arith, append_assoc, append-nil, replicate, ◌==◌, ◌&&◌, ◌||◌, ◌⊎◌, inl, inr}
use Rattle.std.specs.Prelude.{IsTrue, codes, decimal, nat_le, unwrap_or}
use Rattle.std.specs.Char.{is_ascii_digit, is_ascii_alphabetic}
use Rattle.std.specs.List.{All, AllPairs, list_all}
use Rattle.std.proofs.lemmas.Bool.Decides.{nat_tests}
use Rattle.std.proofs.lemmas.Fmt.{decimal_by_steps}
use Rattle.std.proofs.lemmas.List.Elements.{All-head, All-tail}
use Rattle.prime_field.specs.Primes.{characteristics}
use Rattle.prime_field.specs.Primes as primes
use Rattle.monomials.specs.Mono.{total_degree, unit}
use Rattle.polys.specs.declared.term.Term.{Term}
use Rattle.polys.specs.Terms.{EachMono, IsAffine, IsCanonical, OnlyFirst, keep}
use Rattle.polys.specs.Poly.{Polynomial}
use Rattle.poly_text.specs.declared.reading.PartialTerm.{PartialTerm}
use Rattle.problem.specs.Letters.{AreLetters, is_among, place}
use Rattle.poly_text.specs.PolyText.{power_text, factors, term_text, later_text, poly_text, is_shown_negative, shown_size}
use Rattle.poly_text.specs.Parts.{star, factor_text, factors_text, is_some, size_part}
use Rattle.poly_text.specs.PolyReading.{IsWithinDegree, IsPolyText, TextsTellPolynomials}
use Rattle.poly_text.specs.Digits.{number_after}
use Rattle.poly_text.specs.TermReading.{begun, raised_within, settled, with_digit, with_letter, residue_of, finished, is_sign, terms_in, all_terms}
use Rattle.poly_text.proofs.Reader.{in_byte, in_sign, in_end}
use Rattle.poly_text.proofs.Texts.{test_no, test_yes, power_text-one, power_text-more, factor_text-none, factor_text-some, factors-none, size_text-parts, zero_or_not}
use Rattle.problem.proofs.Places.{letters_alphabetic, letter_no_digit}

-- ---- bytes

digit_no_sign : (b : ℕ) → is_ascii_digit b ≡ true → is_sign b ≡ false
digit_no_sign b is = grind (arith, nat_tests)

digit_no_minus : (b : ℕ) → is_ascii_digit b ≡ true → (b == 45) ≡ false
digit_no_minus b is = grind (arith, nat_tests)

letter_no_sign : (b : ℕ) → is_ascii_alphabetic b ≡ true → is_sign b ≡ false
letter_no_sign b is = grind (arith, nat_tests)

letter_no_minus : (b : ℕ) → is_ascii_alphabetic b ≡ true → (b == 45) ≡ false
letter_no_minus b is = grind (arith, nat_tests)

all_head : (b : ℕ) (bs : List ℕ) → list_all is_ascii_digit (b ∷ bs) ≡ true → (is_ascii_digit b ≡ true) × (list_all is_ascii_digit bs ≡ true)
all_head b bs = by_case (is_ascii_digit b) (list_all is_ascii_digit bs)
  where
    by_case : (s t : Bool) → (s && t) ≡ true → (s ≡ true) × (t ≡ true)
    by_case true t h = (refl, h)
    by_case false t h = absurd (cc)

-- ---- decimals

all_push : (ds : List ℕ) (d : ℕ) → list_all is_ascii_digit ds ≡ true → is_ascii_digit d ≡ true → list_all is_ascii_digit (ds ++ (d ∷ [])) ≡ true
all_push [] d all is = ap (λ (b : Bool). b && true) is
all_push (x ∷ ds) d all is = let h = all_head x ds all in (λ i. h.0 i && all_push ds d h.1 is i)

number_push : (n d : ℕ) (ds : List ℕ) → number_after n (ds ++ (d ∷ [])) ≡ number_after n ds * 10 + (d - 48)
number_push n d [] = refl
number_push n d (x ∷ ds) = number_push (n * 10 + (x - 48)) d ds

record IsDecimal (n : ℕ) (ds : List ℕ) : Type 0 where
  digits : list_all is_ascii_digit ds ≡ true
  number : number_after 0 ds ≡ n
  some : 0 < length ds

one_digit : (n : ℕ) → n < 10 → IsDecimal n ((48 + n) ∷ [])
one_digit n small = record { digits = ap (λ (b : Bool). b && true) is; number = omega arith; some = omega arith }
  where
    is : is_ascii_digit (48 + n) ≡ true
    is = grind (arith, nat_tests)

digit_more : (n : ℕ) (ds : List ℕ) → 10 ≤ n → IsDecimal (n / 10) ds → IsDecimal n (ds ++ ((48 + n % 10) ∷ []))
digit_more n ds large h = record {
  digits = all_push ds (48 + n % 10) h.digits is;
  number = number_push 0 (48 + n % 10) ds ∙ (let e : number_after 0 ds ≡ n / 10 = h.number in omega arith);
  some = some;
}
  where
    small : n % 10 < 10
    small = omega arith

    is : is_ascii_digit (48 + n % 10) ≡ true
    is = grind (arith, nat_tests, small)

    longer : (xs : List ℕ) (x : ℕ) → 0 < length (xs ++ (x ∷ []))
    longer [] x = omega arith
    longer (y ∷ xs) x = omega arith

    some : 0 < length (ds ++ ((48 + n % 10) ∷ []))
    some = longer ds (48 + n % 10)

decimal_is : (n : ℕ) → n ≤ 60000 → IsDecimal n (decimal n)
decimal_is n small = decimal_by_steps IsDecimal one_digit digit_more n (omega arith)

-- ---- what a piece of text does to a term that is being read

-- a term that is being read, with this number behind it
with_number : PartialTerm → ℕ → PartialTerm
with_number s n = record { is_negative = s.is_negative; size = s.size; mono = s.mono; letter = s.letter; number = Some n }

after_digits : PartialTerm → List ℕ → PartialTerm
after_digits s [] = s
after_digits s (d ∷ ds) = after_digits (with_digit s d) ds

digits_after : (s : PartialTerm) (n : ℕ) (ds : List ℕ) → after_digits (with_number s (min n 60000)) ds ≡ with_number s (min (number_after n ds) 60000)
unfolding after_digits with_number
digits_after s n [] = refl
digits_after s n (d ∷ ds) =
    let e : min (min n 60000 * 10 + (d - 48)) 60000 ≡ min (n * 10 + (d - 48)) 60000 = omega arith in
    ap (λ (k : ℕ). after_digits (with_number s k) ds) e ∙ digits_after s (n * 10 + (d - 48)) ds

first_digits : (s : PartialTerm) (n : ℕ) (ds : List ℕ) → IsDecimal n ds → n ≤ 60000 → s.number ≡ None → after_digits s ds ≡ with_number s n
unfolding after_digits with_number
first_digits s n [] h small none = let some : 0 < 0 = h.some in absurd (omega arith)
first_digits s n (d ∷ ds) h small none =
    ap (λ (o : Option ℕ). after_digits (with_number s (min (unwrap_or o 0 * 10 + (d - 48)) 60000)) ds) none
    ∙ digits_after s (0 * 10 + (d - 48)) ds
    ∙ ap (with_number s) (ap (λ (k : ℕ). min k 60000) h.number ∙ omega arith)

module _ (p : ℕ) (letters : List ℕ) (named : AreLetters letters) where
  alphabetic : (x : ℕ) → is_among letters x ≡ true → is_ascii_alphabetic x ≡ true
  alphabetic x among = letters_alphabetic letters named.each x among

  no_letter : (b : ℕ) → is_ascii_alphabetic b ≡ false → is_among letters b ≡ false
  no_letter b other = by_case (is_among letters b) refl
    where
      by_case : (t : Bool) → is_among letters b ≡ t → t ≡ false
      by_case false is = refl
      by_case true is = absurd (let e : is_ascii_alphabetic b ≡ true = alphabetic b is in cc)

  in_digits : (s : PartialTerm) (ds rest : List ℕ) → list_all is_ascii_digit ds ≡ true → terms_in p letters s (ds ++ rest) ≡ terms_in p letters (after_digits s ds) rest
  unfolding after_digits
  in_digits s [] rest all = refl
  in_digits s (d ∷ ds) rest all =
      let h = all_head d ds all in
      in_byte p letters (ds ++ rest) s d (digit_no_sign d h.0)
      ∙ ap (λ (t : Bool). terms_in p letters (cond t (with_digit s d) (cond (is_among letters d) (with_letter letters s d) s)) (ds ++ rest)) h.0
      ∙ in_digits (with_digit s d) ds rest h.1

  in_decimal : (s : PartialTerm) (n : ℕ) (rest : List ℕ) → n ≤ 60000 → s.number ≡ None → terms_in p letters s (decimal n ++ rest) ≡ terms_in p letters (with_number s n) rest
  in_decimal s n rest small none =
      let d = decimal_is n small in
      in_digits s (decimal n) rest d.digits ∙ ap (λ (e : PartialTerm). terms_in p letters e rest) (first_digits s n (decimal n) d small none)

  in_letter : (s : PartialTerm) (x : ℕ) (rest : List ℕ) → is_among letters x ≡ true → terms_in p letters s (x ∷ rest) ≡ terms_in p letters (with_letter letters s x) rest
  in_letter s x rest among =
      in_byte p letters rest s x (letter_no_sign x (alphabetic x among))
      ∙ (λ i. terms_in p letters (cond (letter_no_digit x (alphabetic x among) i) (with_digit s x) (cond (among i) (with_letter letters s x) s)) rest)

  in_star : (s : PartialTerm) (rest : List ℕ) → terms_in p letters s (42 ∷ rest) ≡ terms_in p letters s rest
  in_star s rest =
      in_byte p letters rest s 42 refl ∙ ap (λ (t : Bool). terms_in p letters (cond t (with_letter letters s 42) s) rest) (no_letter 42 refl)

  in_caret : (s : PartialTerm) (rest : List ℕ) → terms_in p letters s (94 ∷ rest) ≡ terms_in p letters s rest
  in_caret s rest =
      in_byte p letters rest s 94 refl ∙ ap (λ (t : Bool). terms_in p letters (cond t (with_letter letters s 94) s) rest) (no_letter 94 refl)

  -- behind the text stands a term whose size and monomial are those of t
  record Reads (s : PartialTerm) (text : List ℕ) (t : Term) : Type 0 where
    end : PartialTerm
    sign : end.is_negative ≡ s.is_negative
    on : (rest : List ℕ) → terms_in p letters s (text ++ rest) ≡ terms_in p letters end rest
    term : settled end ≡ t

  -- the text takes a term with the size and the monomial of t to one with those of u
  Takes : Term → List ℕ → Term → Type 0
  Takes t text u = (s : PartialTerm) → settled s ≡ t → Reads s text u

  reads_on : (s : PartialTerm) (a b : List ℕ) (t u : Term) → Reads s a t → Takes t b u → Reads s (a ++ b) u
  unfolding Takes
  reads_on s a b t u h k =
      let r = k h.end h.term in
      record {
        end = r.end;
        sign = r.sign ∙ h.sign;
        on = λ rest. ap (terms_in p letters s) (append_assoc a b rest) ∙ h.on (b ++ rest) ∙ r.on rest;
        term = r.term;
      }

  takes_on : (a b : List ℕ) (t u v : Term) → Takes t a u → Takes u b v → Takes t (a ++ b) v
  unfolding Takes
  takes_on a b t u v h k s is = reads_on s a b u v (h s is) k

  takes_none : (t u : Term) → t ≡ u → Takes t [] u
  unfolding Takes
  takes_none t u same s is = record { end = s; sign = refl; on = λ rest. refl; term = is ∙ same }

  takes_star : (t : Term) (is_first : Bool) → Takes t (star is_first) t
  unfolding Takes
  takes_star t true s is = record { end = s; sign = refl; on = λ rest. refl; term = is }
  takes_star t false s is = record { end = s; sign = refl; on = in_star s; term = is }

  powered : Term → ℕ → ℕ → Term
  powered t x e = record { coeff = t.coeff; mono = raised_within t.mono (place letters x) e }

  takes_power : (t : Term) (x e : ℕ) → is_among letters x ≡ true → e ≢ 0 → e ≤ 60000 → Takes t (power_text x e) (powered t x e)
  unfolding Takes powered with_number
  takes_power t x e among some small s is = by_size (one_or_more e some)
    where
      one_or_more : (e : ℕ) → e ≢ 0 → (e ≡ 1) ⊎ (e ≢ 1)
      one_or_more zero h = absurd (h refl)
      one_or_more (suc zero) h = inl refl
      one_or_more (suc (suc e)) h = inr (λ same. omega (arith, same))

      by_size : (e ≡ 1) ⊎ (e ≢ 1) → Reads s (power_text x e) (powered t x e)
      by_size (inl one) = record {
        end = with_letter letters s x;
        sign = refl;
        on = λ rest. ap (λ (w : List ℕ). terms_in p letters s (w ++ rest)) (power_text-one x e one) ∙ in_letter s x rest among;
        term = (λ i. record { coeff = (is i).coeff; mono = raised_within (is i).mono (place letters x) (sym one i) });
      }
      by_size (inr more) = record {
        end = with_number (with_letter letters s x) e;
        sign = refl;
        on = λ rest.
            ap (λ (w : List ℕ). terms_in p letters s (w ++ rest)) (power_text-more x e more)
            ∙ in_letter s x (94 ∷ (decimal e ++ rest)) among
            ∙ in_caret (with_letter letters s x) (decimal e ++ rest)
            ∙ in_decimal (with_letter letters s x) e rest small refl;
        term = (λ i. record { coeff = (is i).coeff; mono = raised_within (is i).mono (place letters x) e });
      }

-- ---- the factors of a term

zeros : List ℕ → List ℕ
zeros es = replicate (length es) 0

-- the exponent at the first place that is not done
exponent_here : (done zs : List ℕ) (e : ℕ) → set (done ++ (0 ∷ zs)) (length done) (get_or (done ++ (0 ∷ zs)) (length done) 0 + e) ≡ done ++ (e ∷ zs)
exponent_here [] zs e = let h : 0 + e ≡ e = omega arith in λ i. h i ∷ zs
exponent_here (x ∷ done) zs e = ap (λ (l : List ℕ). x ∷ l) (exponent_here done zs e)

degree_both : (a b : List ℕ) → total_degree (a ++ b) ≡ total_degree a + total_degree b
degree_both [] b = omega arith
degree_both (x ∷ a) b = let h : total_degree (a ++ b) ≡ total_degree a + total_degree b = degree_both a b in omega arith

degree_none : (n : ℕ) → total_degree (replicate n 0) ≡ 0
degree_none zero = refl
degree_none (suc n) = let h : total_degree (replicate n 0) ≡ 0 = degree_none n in omega arith

only_none : (es : List ℕ) → OnlyFirst zero es → replicate (length es) 0 ≡ es
only_none [] h = refl
only_none (e ∷ es) h = let n : 0 ≡ e = sym h.0 in λ i. n i ∷ only_none es h.1 i

-- the letters stand at their places, from this one on
Placed : List ℕ → ℕ → List ℕ → Type 0
Placed letters v [] = Unit {0}
Placed letters v (x ∷ back) = (place letters x ≡ v) × (is_among letters x ≡ true) × Placed letters (suc v) back

placed_behind : (y : ℕ) (letters : List ℕ) (v : ℕ) (back : List ℕ) → All (λ x. y ≢ x) back → Placed letters v back → Placed (y ∷ letters) (suc v) back
unfolding Placed
placed_behind y letters v [] other h = tt
placed_behind y letters v (x ∷ back) other h =
    let differs : (y == x) ≡ false = test_no y x (All-head (λ x. y ≢ x) x back other) in (
      ap (λ (t : Bool). cond t 0 (suc (place letters x))) differs ∙ ap suc h.0,
      ap (λ (t : Bool). t || is_among letters x) differs ∙ h.1,
      placed_behind y letters (suc v) back (All-tail (λ x. y ≢ x) x back other) h.2,
    )

all_placed : (letters : List ℕ) → AllPairs (λ x y. x ≢ y) letters → Placed letters 0 letters
unfolding Placed
all_placed [] pairs = tt
all_placed (x ∷ letters) pairs =
    let same : (x == x) ≡ true = test_yes x x refl in (
      ap (λ (t : Bool). cond t 0 (suc (place letters x))) same,
      ap (λ (t : Bool). t || is_among letters x) same,
      placed_behind x letters 0 letters (λ k d within. pairs 0 (suc k) d (omega arith) (omega arith))
          (all_placed letters (λ i j d before within. pairs (suc i) (suc j) d (omega arith) (omega arith))),
    )

term_at : ℕ → List ℕ → Term
term_at c es = record { coeff = c; mono = record { exponents = es; component = 0 } }

module _ (p : ℕ) (letters : List ℕ) (named : AreLetters letters) where
  takes_factor : (c : ℕ) (done es : List ℕ) (x e : ℕ) (is_first : Bool) → place letters x ≡ length done → is_among letters x ≡ true
      → total_degree done + e ≤ 60000
      → Takes p letters named (term_at c (done ++ (0 ∷ zeros es))) (factor_text is_first x e) (term_at c (done ++ (e ∷ zeros es)))
  unfolding term_at zeros powered
  takes_factor c done es x e is_first here among low = by_case (zero_or_not e)
    where
      before : List ℕ
      before = done ++ (0 ∷ replicate (length es) 0)

      room : total_degree (done ++ (0 ∷ replicate (length es) 0)) ≡ total_degree done
      room = degree_both done (0 ∷ replicate (length es) 0) ∙ (let z : total_degree (replicate (length es) 0) ≡ 0 = degree_none (length es) in omega arith)

      after : powered p letters named (term_at c (done ++ (0 ∷ zeros es))) x e ≡ term_at c (done ++ (e ∷ zeros es))
      after =
          let fits : min e (60000 - total_degree (done ++ (0 ∷ replicate (length es) 0))) ≡ e = omega (arith, room) in
          ap (term_at c)
          (
          (λ i. set (done ++ (0 ∷ replicate (length es) 0)) (here i) (get_or (done ++ (0 ∷ replicate (length es) 0)) (here i) 0 + fits i))
          ∙ exponent_here done (replicate (length es) 0) e
          )

      by_case : (e ≡ 0) ⊎ (e ≢ 0) → Takes p letters named (term_at c (done ++ (0 ∷ zeros es))) (factor_text is_first x e) (term_at c (done ++ (e ∷ zeros es)))
      by_case (inl none) =
          subst (λ (w : List ℕ). Takes p letters named (term_at c (done ++ (0 ∷ zeros es))) w (term_at c (done ++ (e ∷ zeros es)))) (sym (factor_text-none is_first x e none))
          (takes_none p letters named _ _ (λ i. term_at c (done ++ (sym none i ∷ zeros es))))
      by_case (inr some) =
          subst (λ (w : List ℕ). Takes p letters named (term_at c (done ++ (0 ∷ zeros es))) w (term_at c (done ++ (e ∷ zeros es)))) (sym (factor_text-some is_first x e some))
          (
          takes_on p letters named (star is_first) (power_text x e) _ _ _
          (takes_star p letters named _ is_first)
          (subst (Takes p letters named (term_at c (done ++ (0 ∷ zeros es))) (power_text x e)) after (takes_power p letters named _ x e among some (omega arith)))
          )

  takes_factors : (c : ℕ) (done back es : List ℕ) (is_first : Bool) → Placed letters (length done) back → OnlyFirst (length back) es
      → total_degree done + total_degree es ≤ 60000
      → Takes p letters named (term_at c (done ++ zeros es)) (factors_text is_first back es) (term_at c (done ++ es))
  unfolding Placed zeros
  takes_factors c done [] es is_first placed only low =
      takes_none p letters named _ _ (ap (λ (l : List ℕ). term_at c (done ++ l)) (only_none es only))
  takes_factors c done (x ∷ back) [] is_first placed only low = takes_none p letters named _ _ refl
  takes_factors c done (x ∷ back) (e ∷ es) is_first placed only low =
      takes_on p letters named (factor_text is_first x e) (factors_text (is_first && e == 0) back es) _ _ _
      (takes_factor c done es x e is_first placed.0 placed.1 (omega arith))
      (
      subst (λ (t : Term). Takes p letters named t (factors_text (is_first && e == 0) back es) (term_at c (done ++ (e ∷ es)))) (ap (term_at c) (append_assoc done (e ∷ []) (zeros es)))
      (
      subst (Takes p letters named (term_at c ((done ++ (e ∷ [])) ++ zeros es)) (factors_text (is_first && e == 0) back es)) (ap (term_at c) (append_assoc done (e ∷ []) es))
      (takes_factors c (done ++ (e ∷ [])) back es (is_first && e == 0) (subst (λ (v : ℕ). Placed letters v back) (sym longer) placed.2) only degree)
      )
      )
    where
      longer : length (done ++ (e ∷ [])) ≡ suc (length done)
      longer = go done
        where
          go : (l : List ℕ) → length (l ++ (e ∷ [])) ≡ suc (length l)
          go [] = refl
          go (y ∷ l) = ap suc (go l)

      degree : total_degree (done ++ (e ∷ [])) + total_degree es ≤ 60000
      degree = let h : total_degree (done ++ (e ∷ [])) ≡ total_degree done + (e + 0) = degree_both done (e ∷ []) in omega arith

-- ---- a term

residue_back : (p c : ℕ) → c < p → residue_of p (is_shown_negative p c) (shown_size p c) ≡ c
residue_back p c small = by_case (nat_le c (p / 2))
  where
    by_case : (t : Bool) → residue_of p (cond t false true) (cond t c (p - c)) ≡ c
    by_case true = refl
    by_case false = omega arith

size_small : (p c : ℕ) → c < p → p ≤ 60000 → shown_size p c ≤ 60000
size_small p c small few = by_case (nat_le c (p / 2))
  where
    by_case : (t : Bool) → cond t c (p - c) ≤ 60000
    by_case true = omega arith
    by_case false = omega arith

module _ (p : ℕ) (letters : List ℕ) (named : AreLetters letters) (few : p ≤ 60000) where
  reads_size : (is_negative : Bool) (n : ℕ) (is_bare : Bool) → n ≤ 60000 → (is_bare ≡ true → n ≡ 1)
      → Reads p letters named (begun is_negative) (size_part is_bare n) (term_at n (replicate 7 0))
  unfolding term_at with_number
  reads_size is_negative n true small one = record {
    end = begun is_negative;
    sign = refl;
    on = λ rest. refl;
    term = let e : 1 ≡ n = sym (one refl) in (λ i. record { coeff = e i; mono = unit });
  }
  reads_size is_negative n false small one = record {
    end = with_number (begun is_negative) n;
    sign = refl;
    on = λ rest. in_decimal p letters named (begun is_negative) n rest small refl;
    term = refl;
  }

  reads_term : (is_negative : Bool) (t : Term) → t.coeff < p → IsAffine (length letters) t.mono → total_degree t.mono.exponents ≤ 60000
      → Reads p letters named (begun is_negative) (term_text p letters t) (record { coeff = shown_size p t.coeff; mono = t.mono })
  unfolding term_at zeros
  reads_term is_negative t small affine low =
      subst (λ (w : List ℕ). Reads p letters named (begun is_negative) w (record { coeff = n; mono = t.mono })) (sym (size_text-parts n letters t.mono.exponents is_bare refl))
      (
      subst (Reads p letters named (begun is_negative) (size_part is_bare n ++ factors_text is_bare letters t.mono.exponents)) whole
      (
      reads_on p letters named (begun is_negative) (size_part is_bare n) (factors_text is_bare letters t.mono.exponents) _ _
      (reads_size is_negative n is_bare (size_small p t.coeff small few) one)
      (
      subst (λ (u : Term). Takes p letters named u (factors_text is_bare letters t.mono.exponents) (term_at n t.mono.exponents)) (ap (λ (k : ℕ). term_at n (replicate k 0)) affine.seven)
      (takes_factors p letters named n [] letters t.mono.exponents is_bare (all_placed letters named.distinct) affine.first (omega arith))
      )
      )
      )
    where
      n : ℕ
      n = shown_size p t.coeff

      is_bare : Bool
      is_bare = shown_size p t.coeff == 1 && is_some (factors letters t.mono.exponents)

      whole : term_at (shown_size p t.coeff) t.mono.exponents ≡ record { coeff = shown_size p t.coeff; mono = t.mono }
      whole = let e : 0 ≡ t.mono.component = sym affine.plain in (λ i. record { coeff = shown_size p t.coeff; mono = record { exponents = t.mono.exponents; component = e i } })

      one : (shown_size p t.coeff == 1 && is_some (factors letters t.mono.exponents)) ≡ true → shown_size p t.coeff ≡ 1
      one = by_case (shown_size p t.coeff == 1) (is_some (factors letters t.mono.exponents)) refl
        where
          by_case : (a b : Bool) → (shown_size p t.coeff == 1) ≡ a → (a && b) ≡ true → shown_size p t.coeff ≡ 1
          by_case true b is h = grind (arith, nat_tests)
          by_case false b is h = absurd (cc)

  -- a sign that tells, the text of the term, and then the term stands finished
  finished_term : (t : Term) (s : PartialTerm) → 0 < t.coeff → t.coeff < p → s.is_negative ≡ is_shown_negative p t.coeff
      → settled s ≡ record { coeff = shown_size p t.coeff; mono = t.mono } → finished p s ≡ t ∷ []
  finished_term t s some small sign is =
      (λ i. keep (residue_of p (sign i) (is i).coeff) (is i).mono [])
      ∙ ap (λ (c : ℕ). keep c t.mono []) (residue_back p t.coeff small)
      ∙ ap (λ (b : Bool). cond b [] (t ∷ [])) (test_no t.coeff 0 (λ none. omega (arith, none)))

  term_read : (f : List Term) (t : Term) (is_negative : Bool) → IsCanonical p (t ∷ f) → EachMono (IsAffine (length letters)) (t ∷ f) → EachMono IsWithinDegree (t ∷ f)
      → is_negative ≡ is_shown_negative p t.coeff → ((s : PartialTerm) → terms_in p letters s (later_text p letters f) ≡ finished p s ++ f)
      → terms_in p letters (begun is_negative) (term_text p letters t ++ later_text p letters f) ≡ t ∷ f
  term_read f t is_negative canonical affine low sign more =
      let r = reads_term is_negative t canonical.1 affine.0 low.0 in
      r.on (later_text p letters f)
      ∙ more r.end
      ∙ ap (λ (g : List Term). g ++ f) (finished_term t r.end canonical.0 canonical.1 (r.sign ∙ sign) r.term)

  later_read : (f : List Term) → IsCanonical p f → EachMono (IsAffine (length letters)) f → EachMono IsWithinDegree f
      → (s : PartialTerm) → terms_in p letters s (later_text p letters f) ≡ finished p s ++ f
  later_read [] canonical affine low s = in_end p letters s ∙ sym (append-nil (finished p s))
  later_read (t ∷ f) canonical affine low s = by_case (is_shown_negative p t.coeff) refl (later_read f canonical.3 affine.1 low.1)
    where
      by_case : (b : Bool) → is_shown_negative p t.coeff ≡ b → ((e : PartialTerm) → terms_in p letters e (later_text p letters f) ≡ finished p e ++ f)
          → terms_in p letters s (cond b (45 ∷ []) (43 ∷ []) ++ (term_text p letters t ++ later_text p letters f)) ≡ finished p s ++ (t ∷ f)
      by_case true is more =
          in_sign p letters (term_text p letters t ++ later_text p letters f) s 45 refl
          ∙ ap (λ (g : List Term). finished p s ++ g) (term_read f t true canonical affine low (sym is) more)
      by_case false is more =
          in_sign p letters (term_text p letters t ++ later_text p letters f) s 43 refl
          ∙ ap (λ (g : List Term). finished p s ++ g) (term_read f t false canonical affine low (sym is) more)

  -- ---- the first term

  -- the text does not begin with a minus
  IsPlain : List ℕ → Type 0
  IsPlain text = (rest : List ℕ) → all_terms p letters (text ++ rest) ≡ terms_in p letters (begun false) (text ++ rest)

  plain_first : (b : ℕ) (text : List ℕ) → (b == 45) ≡ false → IsPlain (b ∷ text)
  unfolding IsPlain
  plain_first b text other rest = ap (λ (t : Bool). cond t (terms_in p letters (begun true) (text ++ rest)) (terms_in p letters (begun false) (b ∷ (text ++ rest)))) other

  plain_more : (a b : List ℕ) → IsPlain a → IsPlain (a ++ b)
  unfolding IsPlain
  plain_more a b plain rest =
      ap (all_terms p letters) (append_assoc a b rest) ∙ plain (b ++ rest) ∙ ap (terms_in p letters (begun false)) (sym (append_assoc a b rest))

  plain_decimal : (n : ℕ) → n ≤ 60000 → IsPlain (decimal n)
  plain_decimal n small = go (decimal n) (decimal_is n small)
    where
      go : (ds : List ℕ) → IsDecimal n ds → IsPlain ds
      go [] h = let some : 0 < 0 = h.some in absurd (omega arith)
      go (d ∷ ds) h = plain_first d ds (digit_no_minus d (all_head d ds h.digits).0)

  plain_factors : (v : ℕ) (back es : List ℕ) → Placed letters v back → is_some (factors back es) ≡ true → IsPlain (factors_text true back es)
  unfolding Placed
  plain_factors v [] es placed some = absurd (cc)
  plain_factors v (x ∷ back) [] placed some = absurd (cc)
  plain_factors v (x ∷ back) (e ∷ es) placed some = by_case (zero_or_not e) (plain_factors (suc v) back es placed.2)
    where
      letter : (x == 45) ≡ false
      letter = letter_no_minus x (alphabetic p letters named x placed.1)

      power : IsPlain (power_text x e)
      power = go (e == 1)
        where
          go : (b : Bool) → IsPlain (cond b (x ∷ []) (x ∷ (codes "^" ++ decimal e)))
          go true = plain_first x [] letter
          go false = plain_first x (codes "^" ++ decimal e) letter

      by_case : (e ≡ 0) ⊎ (e ≢ 0) → (is_some (factors back es) ≡ true → IsPlain (factors_text true back es))
          → IsPlain (factor_text true x e ++ factors_text (true && e == 0) back es)
      by_case (inl none) more =
          rw (factor_text-none true x e none, test_yes e 0 none) (more (ap is_some (sym (factors-none x e back es none)) ∙ some))
      by_case (inr nonzero) more =
          rw (factor_text-some true x e nonzero) (plain_more (power_text x e) (factors_text (true && e == 0) back es) power)

  plain_term : (t : Term) → t.coeff < p → IsPlain (term_text p letters t)
  plain_term t small =
      subst IsPlain (sym (size_text-parts (shown_size p t.coeff) letters t.mono.exponents (shown_size p t.coeff == 1 && is_some (factors letters t.mono.exponents)) refl))
      (by_case (shown_size p t.coeff == 1) (is_some (factors letters t.mono.exponents)) refl)
    where
      size : IsPlain (decimal (shown_size p t.coeff) ++ factors_text false letters t.mono.exponents)
      size = plain_more (decimal (shown_size p t.coeff)) (factors_text false letters t.mono.exponents) (plain_decimal (shown_size p t.coeff) (size_small p t.coeff small few))

      by_case : (a b : Bool) → is_some (factors letters t.mono.exponents) ≡ b
          → IsPlain (size_part (a && b) (shown_size p t.coeff) ++ factors_text (a && b) letters t.mono.exponents)
      by_case true true some = plain_factors 0 letters t.mono.exponents (all_placed letters named.distinct) some
      by_case true false some = size
      by_case false b some = size

  all_read_back : (f : List Term) → IsCanonical p f → EachMono (IsAffine (length letters)) f → EachMono IsWithinDegree f → all_terms p letters (poly_text p letters f) ≡ f
  unfolding IsPlain
  all_read_back [] canonical affine low =
      in_byte p letters [] (begun false) 48 refl ∙ in_end p letters (with_digit (begun false) 48)
  all_read_back (t ∷ f) canonical affine low = by_case (is_shown_negative p t.coeff) refl
    where
      more : (s : PartialTerm) → terms_in p letters s (later_text p letters f) ≡ finished p s ++ f
      more = later_read f canonical.3 affine.1 low.1

      by_case : (b : Bool) → is_shown_negative p t.coeff ≡ b
          → all_terms p letters (cond b (45 ∷ []) [] ++ (term_text p letters t ++ later_text p letters f)) ≡ t ∷ f
      by_case true is = term_read f t true canonical affine low (sym is) more
      by_case false is = plain_term t canonical.1 (later_text p letters f) ∙ term_read f t false canonical affine low (sym is) more

-- ---- the text of a polynomial

small_among : (ps : List ℕ) (p : ℕ) → list_all (λ q. nat_le q 60000) ps ≡ true → primes.is_among ps p ≡ true → p ≤ 60000
small_among [] p all one = absurd (cc)
small_among (q ∷ qs) p all one = grind (arith, nat_tests, small_among qs p)

pub text_read_back : (p : ℕ) (letters bytes : List ℕ) (f : List Term) → p ≤ 60000 → AreLetters letters → IsPolyText p letters bytes f → all_terms p letters bytes ≡ f
text_read_back p letters bytes f few named h =
    ap (all_terms p letters) h.text ∙ all_read_back p letters named few f h.poly.canonical h.poly.affine h.low

pub texts_tell : TextsTellPolynomials
texts_tell p letters bytes f g known named h k =
    let few = small_among characteristics p refl known in
    sym (text_read_back p letters bytes f few named h) ∙ text_read_back p letters bytes g few named k

-- what the code has read is each polynomial whose text the bytes are
pub read_is : (p q : ℕ) (letters names bytes : List ℕ) (items f : List Term) → q ≡ p → names ≡ letters → q ≤ 60000 → AreLetters names → items ≡ all_terms q names bytes
    → IsPolyText p letters bytes f → items ≡ f
read_is p q letters names bytes items f is_prime is few named read h =
    let k : IsPolyText q names bytes f = subst (λ (r : ℕ). IsPolyText r names bytes f) (sym is_prime) (subst (λ (l : List ℕ). IsPolyText p l bytes f) (sym is) h) in
    read ∙ text_read_back q names bytes f few named k

off : (b : Bool) (A : Type 0) → b ≡ false → (A → IsTrue b) → A → ⊥
off b A is tells a = absurd (let e : true ≡ false = sym (tells a) ∙ is in cc)

-- terms that do not fall are those of no text
pub no_order : (p q : ℕ) (items slice f : List Term) (b : Bool) → q ≡ p → slice ≡ items → items ≡ f → b ≡ false → (IsCanonical q slice → IsTrue b) → IsCanonical p f → ⊥
no_order p q items slice f b is_prime is same none tells canonical =
    off b (IsCanonical q slice) none tells (subst (λ (r : ℕ). IsCanonical r slice) (sym is_prime) (subst (IsCanonical p) (sym (is ∙ same)) canonical))

-- neither are terms that print another text
pub no_text : (p : ℕ) (letters bytes : List ℕ) (items f : List Term) (g : Polynomial) (b : Bool) → g ≡ record { prime = p; terms = items } → items ≡ f → b ≡ false
    → (bytes ≡ poly_text g.prime letters g.terms → IsTrue b) → bytes ≡ poly_text p letters f → ⊥
no_text p letters bytes items f g b is same none tells text =
    off b (bytes ≡ poly_text g.prime letters g.terms) none tells
    (text ∙ ap (poly_text p letters) (sym same) ∙ ap (λ (h : Polynomial). poly_text h.prime letters h.terms) (sym is))
