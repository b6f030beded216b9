-- A scan of the tokens that spell an expression.
use Rattle.std.proofs.Common.{◌≡◌, ℕ, ◌+◌, ◌-◌, ◌≤◌, max, List, [], ◌∷◌, ◌++◌, Bool, true, false, cond, ◌==◌, ◌&&◌, suc, length, refl, ap, ◌∙◌, arith, append_assoc, Some, None, inl, inr}
use Rattle.std.specs.Prelude.{codes, not, ◌⊎◌}
use Rattle.std.proofs.lemmas.Bool.Decides.{nat_tests}
use Rattle.std.specs.Char.{is_ascii_alphabetic, is_ascii_digit}
use Rattle.std.specs.List.{list_all}
use Rattle.problem_form.specs.declared.words.Class.{Class}
use Rattle.problem_form.specs.declared.words.Class.TheVariants as class
use Rattle.problem_form.specs.declared.scanning.Place.{Place}
use Rattle.problem_form.specs.declared.scanning.Place.TheVariants.{Start, Operand, Base, Caret, Factor, Between, PolyName, PolyEquals}
use Rattle.problem_form.specs.declared.scanning.Scan.{Scan}
use Rattle.problem.specs.Letters.{is_among}
use Rattle.problem.proofs.Places.{letter_no_digit}
use Rattle.problem_form.specs.Words.{is_number, class_of, digits_in, leading_digits}
use Rattle.problem_form.specs.Expressions.{Expression, Letter, Number, Parentheses, Run, Power, Product, Signed, Sum, rank, IsFormed, sign, spelling, nesting, most_digits}
use Rattle.problem_form.specs.Scanning.{scan, step, step_at, in_expression, in_expression_at, counting, after_base, after_factor}
use Rattle.problem_form.proofs.Marks.{open_class, close_class, caret_class, star_class, sign_has_class, number_class, run_class, letter_class}
use Rattle.problem_form.proofs.Scans.{scan_on, scan_off}

-- where a reader stands behind an expression
abbrev pub end_place : Expression → Place
end_place (Letter x) = Base
end_place (Number digits) = Base
end_place (Parentheses inner) = Base
end_place (Run word) = Factor
end_place (Power base exponent) = Factor
end_place (Product term factor) = end_place factor
end_place (Signed is_negative term) = end_place term
end_place (Sum earlier is_negative term) = end_place term

-- the place and the counts behind a part
abbrev pub moved : Place → ℕ → ℕ → Scan → Scan
moved place n d s = record s { place = place; nesting = max s.nesting (s.depth + n); digits = max s.digits d }

abbrev pub behind : Expression → Scan → Scan
behind e s = moved (end_place e) (nesting e) (most_digits e) s

same_counts : (s : Scan) (place : Place) (n m d e : ℕ) → n ≡ m → d ≡ e → record s { place = place; nesting = n; digits = d } ≡ record s { place = place; nesting = m; digits = e }
same_counts s place n m d e first second = λ i. record s { place = place; nesting = first i; digits = second i }

same_scan : (s : Scan) (place : Place) (k l n m d e : ℕ) → k ≡ l → n ≡ m → d ≡ e
    → record s { place = place; depth = k; nesting = n; digits = d } ≡ record s { place = place; depth = l; nesting = m; digits = e }
same_scan s place k l n m d e first second third = λ i. record s { place = place; depth = first i; nesting = second i; digits = third i }

-- ---- the digits of tokens

pub mark_digits : (b : ℕ) → is_ascii_digit b ≡ false → digits_in (b ∷ []) ≡ 0
unfolding digits_in leading_digits
mark_digits b none = rw none refl

number_digits : (digits : List ℕ) → list_all is_ascii_digit digits ≡ true → (digits_in digits ≡ length digits) × (leading_digits digits ≡ length digits)
unfolding digits_in leading_digits
number_digits [] all = (refl, refl)
number_digits (b ∷ digits) all = by_case (is_ascii_digit b) refl all (number_digits digits)
  where
    by_case : (t : Bool) → is_ascii_digit b ≡ t → (t && list_all is_ascii_digit digits) ≡ true
        → (list_all is_ascii_digit digits ≡ true → (digits_in digits ≡ length digits) × (leading_digits digits ≡ length digits))
        → (max (cond (is_ascii_digit b) (suc (leading_digits digits)) 0) (digits_in digits) ≡ suc (length digits)) × (cond (is_ascii_digit b) (suc (leading_digits digits)) 0 ≡ suc (length digits))
    by_case false is h more = absurd (cc)
    by_case true is h more =
        let m : (digits_in digits ≡ length digits) × (leading_digits digits ≡ length digits) = more h in
        let first = m.0 in
        let second = m.1 in
        rw is (omega arith, omega arith)

all_digits : (digits : List ℕ) → is_number digits ≡ true → list_all is_ascii_digit digits ≡ true
all_digits digits = by_case (not (length digits == 0)) (list_all is_ascii_digit digits)
  where
    by_case : (a b : Bool) → (a && b) ≡ true → b ≡ true
    by_case true b h = h
    by_case false b h = absurd (cc)

sign_digits : (is_negative : Bool) → digits_in (sign is_negative) ≡ 0
sign_digits true = mark_digits 45 refl
sign_digits false = mark_digits 43 refl

base_end : (e : Expression) → rank e ≡ 0 → end_place e ≡ Base
base_end (Letter x) h = refl
base_end (Number digits) h = refl
base_end (Parentheses inner) h = refl
base_end (Run word) h = absurd (omega (arith, h))
base_end (Power base exponent) h = absurd (omega (arith, h))
base_end (Product term factor) h = absurd (omega (arith, h))
base_end (Signed is_negative term) h = absurd (omega (arith, h))
base_end (Sum earlier is_negative term) h = absurd (omega (arith, h))

-- a sign may stand at the start alone
abbrev pub Allowed : Bool → Expression → Type 0
Allowed true e = Unit {0}
Allowed false e = rank e ≤ 2

allowed : (at_start : Bool) (e : Expression) → rank e ≤ 2 → Allowed at_start e
allowed true e h = tt
allowed false e h = h

-- ---- one token

-- in an expression
abbrev pub IsInside : Place → Type 0
IsInside Between = ⊥
IsInside PolyName = ⊥
IsInside PolyEquals = ⊥
IsInside _ = Unit {0}

module _ (letters : List ℕ) (are_letters : (x : ℕ) → is_among letters x ≡ true → is_ascii_alphabetic x ≡ true) where
  step_inside : (place : Place) (s : Scan) (t : List ℕ) → IsInside place → step_at letters place s t ≡ in_expression (class_of letters t) (counting t s)
  step_inside Start s t h = refl
  step_inside Operand s t h = refl
  step_inside Base s t h = refl
  step_inside Caret s t h = refl
  step_inside Factor s t h = refl
  step_inside Between s t h = absurd h
  step_inside PolyName s t h = absurd h
  step_inside PolyEquals s t h = absurd h

  token_read : (s next : Scan) (t : List ℕ) (ts : List (List ℕ)) (c : Class) → IsInside s.place → class_of letters t ≡ c → in_expression c (counting t s) ≡ Some next
      → scan letters s (t ∷ ts) ≡ scan letters next ts
  unfolding step
  token_read s next t ts c inside is moves = scan_on letters s next t (t ∷ ts) ts refl (step_inside s.place s t inside ∙ ap (λ (k : Class). in_expression k (counting t s)) is ∙ moves)

  -- a sign may stand at the start alone
  abbrev pub wanted : Bool → Place
  wanted true = Start
  wanted false = Operand

  read_base : (at_start : Bool) (s : Scan) (t : List ℕ) (ts : List (List ℕ)) (c : Class) → (c ≡ class.Number) ⊎ (c ≡ class.Variable) → class_of letters t ≡ c
      → scan letters (record s { place = wanted at_start }) (t ∷ ts) ≡ scan letters (record s { place = Base; digits = max s.digits (digits_in t) }) ts
  read_base true s t ts c (inl n) is = token_read (record s { place = Start }) _ t ts class.Number tt (is ∙ n) refl
  read_base true s t ts c (inr v) is = token_read (record s { place = Start }) _ t ts class.Variable tt (is ∙ v) refl
  read_base false s t ts c (inl n) is = token_read (record s { place = Operand }) _ t ts class.Number tt (is ∙ n) refl
  read_base false s t ts c (inr v) is = token_read (record s { place = Operand }) _ t ts class.Variable tt (is ∙ v) refl

  read_run : (at_start : Bool) (s : Scan) (t : List ℕ) (ts : List (List ℕ)) → class_of letters t ≡ class.Run
      → scan letters (record s { place = wanted at_start }) (t ∷ ts) ≡ scan letters (record s { place = Factor; digits = max s.digits (digits_in t) }) ts
  read_run true s t ts is = token_read (record s { place = Start }) _ t ts class.Run tt is refl
  read_run false s t ts is = token_read (record s { place = Operand }) _ t ts class.Run tt is refl

  read_open : (at_start : Bool) (s : Scan) (ts : List (List ℕ))
      → scan letters (record s { place = wanted at_start }) (codes "(" ∷ ts)
      ≡ scan letters (record s { place = Start; depth = s.depth + 1; nesting = max s.nesting (s.depth + 1); digits = max s.digits (digits_in (codes "(")) }) ts
  read_open true s ts = token_read (record s { place = Start }) _ (codes "(") ts class.Open tt (open_class letters) refl
  read_open false s ts = token_read (record s { place = Operand }) _ (codes "(") ts class.Open tt (open_class letters) refl

  -- behind an expression only a base takes a caret
  after_end : (e : Expression) (c : Class) (s : Scan) → after_base c s ≡ after_factor c s → in_expression_at (end_place e) c s ≡ after_factor c s
  after_end (Letter x) c s h = h
  after_end (Number digits) c s h = h
  after_end (Parentheses inner) c s h = h
  after_end (Run word) c s h = refl
  after_end (Power base exponent) c s h = refl
  after_end (Product term factor) c s h = after_end factor c s h
  after_end (Signed is_negative term) c s h = after_end term c s h
  after_end (Sum earlier is_negative term) c s h = after_end term c s h

  inside_end : (e : Expression) → IsInside (end_place e)
  inside_end (Letter x) = tt
  inside_end (Number digits) = tt
  inside_end (Parentheses inner) = tt
  inside_end (Run word) = tt
  inside_end (Power base exponent) = tt
  inside_end (Product term factor) = inside_end factor
  inside_end (Signed is_negative term) = inside_end term
  inside_end (Sum earlier is_negative term) = inside_end term

  -- a token behind an expression
  pub read_after : (e : Expression) (s next : Scan) (t : List ℕ) (ts : List (List ℕ)) (c : Class) → class_of letters t ≡ c → after_base c (counting t (record s { place = end_place e })) ≡ after_factor c (counting t (record s { place = end_place e }))
      → after_factor c (counting t (record s { place = end_place e })) ≡ Some next → scan letters (record s { place = end_place e }) (t ∷ ts) ≡ scan letters next ts
  read_after e s next t ts c is no_caret moves =
      token_read (record s { place = end_place e }) next t ts c (inside_end e) is (after_end e c (counting t (record s { place = end_place e })) no_caret ∙ moves)

  -- a token that may not stand behind an expression
  pub refused_after : (e : Expression) (s : Scan) (t : List ℕ) (ts : List (List ℕ)) (c : Class) → class_of letters t ≡ c → after_base c (counting t (record s { place = end_place e })) ≡ after_factor c (counting t (record s { place = end_place e }))
      → after_factor c (counting t (record s { place = end_place e })) ≡ None → scan letters (record s { place = end_place e }) (t ∷ ts) ≡ None
  unfolding step
  refused_after e s t ts c is no_caret stops =
      scan_off letters (record s { place = end_place e }) t (t ∷ ts) ts refl
      (step_inside (end_place e) (record s { place = end_place e }) t (inside_end e) ∙ ap (λ (k : Class). in_expression k (counting t (record s { place = end_place e }))) is
      ∙ after_end e c (counting t (record s { place = end_place e })) no_caret ∙ stops)

  read_power : (s : Scan) (digits : List ℕ) (ts : List (List ℕ)) → is_number digits ≡ true
      → scan letters (record s { place = Base }) (codes "^" ∷ digits ∷ ts)
      ≡ scan letters (record s { place = Factor; digits = max (max s.digits (digits_in (codes "^"))) (digits_in digits) }) ts
  read_power s digits ts is =
      token_read (record s { place = Base }) (record s { place = Caret; digits = max s.digits (digits_in (codes "^")) }) (codes "^") (digits ∷ ts) class.Caret tt (caret_class letters) refl
      ∙ token_read (record s { place = Caret; digits = max s.digits (digits_in (codes "^")) }) _ digits ts class.Number tt (number_class letters digits is) refl

  read_first_sign : (is_negative : Bool) (s : Scan) (ts : List (List ℕ))
      → scan letters (record s { place = Start }) (sign is_negative ∷ ts) ≡ scan letters (record s { place = Operand; digits = max s.digits (digits_in (sign is_negative)) }) ts
  read_first_sign true s ts = token_read (record s { place = Start }) _ (sign true) ts class.Minus tt (sign_has_class letters true) refl
  read_first_sign false s ts = token_read (record s { place = Start }) _ (sign false) ts class.Plus tt (sign_has_class letters false) refl

  read_sign : (e : Expression) (is_negative : Bool) (s : Scan) (ts : List (List ℕ))
      → scan letters (record s { place = end_place e }) (sign is_negative ∷ ts) ≡ scan letters (record s { place = Operand; digits = max s.digits (digits_in (sign is_negative)) }) ts
  read_sign e true s ts = read_after e s _ (sign true) ts class.Minus (sign_has_class letters true) refl refl
  read_sign e false s ts = read_after e s _ (sign false) ts class.Plus (sign_has_class letters false) refl refl

  read_star : (e : Expression) (s : Scan) (ts : List (List ℕ))
      → scan letters (record s { place = end_place e }) (codes "*" ∷ ts) ≡ scan letters (record s { place = Operand; digits = max s.digits (digits_in (codes "*")) }) ts
  read_star e s ts = read_after e s _ (codes "*") ts class.Star (star_class letters) refl refl

  read_close : (e : Expression) (s : Scan) (k : ℕ) (ts : List (List ℕ)) → s.depth ≡ k + 1
      → scan letters (record s { place = end_place e }) (codes ")" ∷ ts)
      ≡ scan letters (record s { place = Base; depth = s.depth - 1; digits = max s.digits (digits_in (codes ")")) }) ts
  read_close e s k ts deep =
      read_after e s (record s { place = Base; depth = s.depth - 1; digits = max s.digits (digits_in (codes ")")) }) (codes ")") ts class.Close (close_class letters) refl
      (ap (λ (t : Bool). cond t None (Some (record s { place = Base; depth = s.depth - 1; digits = max s.digits (digits_in (codes ")")) }))) some)
    where
      some : (s.depth == 0) ≡ false
      some = grind (arith, nat_tests)

  pub scan_reads : (e : Expression) → IsFormed letters e → (at_start : Bool) (s : Scan) (rest : List (List ℕ)) → Allowed at_start e → s.depth ≤ s.nesting
      → scan letters (record s { place = wanted at_start }) (spelling e ++ rest) ≡ scan letters (behind e s) rest
  scan_reads (Letter x) formed at_start s rest allows deep =
      let none : digits_in (x ∷ []) ≡ 0 = mark_digits x (letter_no_digit x (are_letters x formed)) in
      read_base at_start s (x ∷ []) rest class.Variable (inr refl) (letter_class letters x (are_letters x formed) formed)
      ∙ ap (λ (z : Scan). scan letters z rest) (same_counts s Base s.nesting (max s.nesting (s.depth + 0)) (max s.digits (digits_in (x ∷ []))) (max s.digits 0) (omega arith) (omega arith))
  scan_reads (Number digits) formed at_start s rest allows deep =
      let count : digits_in digits ≡ length digits = (number_digits digits (all_digits digits formed)).0 in
      read_base at_start s digits rest class.Number (inl refl) (number_class letters digits formed)
      ∙ ap (λ (z : Scan). scan letters z rest) (same_counts s Base s.nesting (max s.nesting (s.depth + 0)) (max s.digits (digits_in digits)) (max s.digits (length digits)) (omega arith) (omega arith))
  scan_reads (Run word) formed at_start s rest allows deep =
      read_run at_start s word rest (run_class letters word formed)
      ∙ ap (λ (z : Scan). scan letters z rest) (same_counts s Factor s.nesting (max s.nesting (s.depth + 0)) (max s.digits (digits_in word)) (max s.digits (digits_in word)) (omega arith) refl)
  scan_reads (Parentheses e) formed at_start s rest allows deep =
      let opened : Scan = record s { place = Start; depth = s.depth + 1; nesting = max s.nesting (s.depth + 1); digits = max s.digits (digits_in (codes "(")) } in
      let none : digits_in (codes "(") ≡ 0 = mark_digits 40 refl in
      let none_either : digits_in (codes ")") ≡ 0 = mark_digits 41 refl in
      ap (λ (ts : List (List ℕ)). scan letters (record s { place = wanted at_start }) (codes "(" ∷ ts)) (append_assoc (spelling e) (codes ")" ∷ []) rest)
      ∙ read_open at_start s (spelling e ++ (codes ")" ∷ rest))
      ∙ scan_reads e formed true opened (codes ")" ∷ rest) tt (omega arith)
      ∙ read_close e (behind e opened) s.depth rest refl
      ∙ ap (λ (z : Scan). scan letters z rest)
      (
      same_scan s Base (s.depth + 1 - 1) s.depth (max (max s.nesting (s.depth + 1)) (s.depth + 1 + nesting e)) (max s.nesting (s.depth + (nesting e + 1)))
      (max (max (max s.digits (digits_in (codes "("))) (most_digits e)) (digits_in (codes ")"))) (max s.digits (most_digits e)) (omega arith) (omega arith) (omega arith)
      )
  scan_reads (Power base exponent) formed at_start s rest allows deep =
      let count : digits_in exponent ≡ length exponent = (number_digits exponent (all_digits exponent formed.2)).0 in
      let none : digits_in (codes "^") ≡ 0 = mark_digits 94 refl in
      ap (scan letters (record s { place = wanted at_start })) (append_assoc (spelling base) (codes "^" ∷ exponent ∷ []) rest)
      ∙ scan_reads base formed.1 at_start s (codes "^" ∷ exponent ∷ rest) (allowed at_start base (omega (arith, formed.0))) deep
      ∙ ap (λ (place : Place). scan letters (record (behind base s) { place = place }) (codes "^" ∷ exponent ∷ rest)) (base_end base formed.0)
      ∙ read_power (behind base s) exponent rest formed.2
      ∙ ap (λ (z : Scan). scan letters z rest)
      (
      same_counts s Factor (max s.nesting (s.depth + nesting base)) (max s.nesting (s.depth + nesting base))
      (max (max (max s.digits (most_digits base)) (digits_in (codes "^"))) (digits_in exponent)) (max s.digits (max (most_digits base) (length exponent))) refl (omega arith)
      )
  scan_reads (Product t f) formed at_start s rest allows deep =
      let none : digits_in (codes "*") ≡ 0 = mark_digits 42 refl in
      let between : Scan = record (behind t s) { place = Operand; digits = max (max s.digits (most_digits t)) (digits_in (codes "*")) } in
      ap (scan letters (record s { place = wanted at_start })) (append_assoc (spelling t) (codes "*" ∷ spelling f) rest)
      ∙ scan_reads t formed.1 at_start s (codes "*" ∷ (spelling f ++ rest)) (allowed at_start t formed.0) deep
      ∙ read_star t (behind t s) (spelling f ++ rest)
      ∙ scan_reads f formed.3 false between rest (omega (arith, formed.2)) (omega arith)
      ∙ ap (λ (z : Scan). scan letters z rest)
      (
      same_counts s (end_place f) (max (max s.nesting (s.depth + nesting t)) (s.depth + nesting f)) (max s.nesting (s.depth + max (nesting t) (nesting f)))
      (max (max (max s.digits (most_digits t)) (digits_in (codes "*"))) (most_digits f)) (max s.digits (max (most_digits t) (most_digits f))) (omega arith) (omega arith)
      )
  scan_reads (Signed is_negative t) formed false s rest allows deep = absurd (omega (arith, allows))
  scan_reads (Signed is_negative t) formed true s rest allows deep =
      let none : digits_in (sign is_negative) ≡ 0 = sign_digits is_negative in
      read_first_sign is_negative s (spelling t ++ rest)
      ∙ scan_reads t formed.1 false (record s { place = Operand; digits = max s.digits (digits_in (sign is_negative)) }) rest formed.0 deep
      ∙ ap (λ (z : Scan). scan letters z rest)
      (
      same_counts s (end_place t) (max s.nesting (s.depth + nesting t)) (max s.nesting (s.depth + nesting t)) (max (max s.digits (digits_in (sign is_negative))) (most_digits t))
      (max s.digits (most_digits t)) refl (omega arith)
      )
  scan_reads (Sum e is_negative t) formed false s rest allows deep = absurd (omega (arith, allows))
  scan_reads (Sum e is_negative t) formed true s rest allows deep =
      let none : digits_in (sign is_negative) ≡ 0 = sign_digits is_negative in
      let between : Scan = record (behind e s) { place = Operand; digits = max (max s.digits (most_digits e)) (digits_in (sign is_negative)) } in
      ap (scan letters (record s { place = Start })) (append_assoc (spelling e) (sign is_negative ∷ spelling t) rest)
      ∙ scan_reads e formed.0 true s (sign is_negative ∷ (spelling t ++ rest)) tt deep
      ∙ read_sign e is_negative (behind e s) (spelling t ++ rest)
      ∙ scan_reads t formed.2 false between rest formed.1 (omega arith)
      ∙ ap (λ (z : Scan). scan letters z rest)
      (
      same_counts s (end_place t) (max (max s.nesting (s.depth + nesting e)) (s.depth + nesting t)) (max s.nesting (s.depth + max (nesting e) (nesting t)))
      (max (max (max s.digits (most_digits e)) (digits_in (sign is_negative))) (most_digits t)) (max s.digits (max (most_digits e) (most_digits t))) (omega arith) (omega arith)
      )
