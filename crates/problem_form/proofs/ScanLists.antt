-- A scan of the statements that lists of expressions spell.
use Rattle.std.proofs.Common.{◌≡◌, ℕ, ◌+◌, ◌≤◌, max, List, [], ◌∷◌, ◌++◌, Bool, true, false, cond, ◌==◌, length, refl, ap, ◌∙◌, arith, append_assoc, Some, None}
use Rattle.std.specs.Prelude.{codes}
use Rattle.std.specs.Char.{is_ascii_alphabetic}
use Rattle.std.specs.List.{AllByRecursion}
use Rattle.std.proofs.lemmas.Bool.Decides.{nat_tests}
use Rattle.problem_form.specs.declared.words.Class.TheVariants as class
use Rattle.problem_form.specs.declared.scanning.Place.{Place}
use Rattle.problem_form.specs.declared.scanning.Place.TheVariants.{Start, Between, PolyName, PolyEquals}
use Rattle.problem_form.specs.declared.scanning.Part.{Part}
use Rattle.problem_form.specs.declared.scanning.Part.TheVariants.{Ideal, Poly, At}
use Rattle.problem_form.specs.declared.scanning.Scan.{Scan}
use Rattle.problem.specs.Letters.{is_among}
use Rattle.problem_form.specs.Words.{is_name, digits_in}
use Rattle.problem_form.specs.Expressions.{Expression, IsFormed, spelling, nesting, most_digits}
use Rattle.problem_form.specs.ProblemText.{list_spelling, at_spelling, AreExpressions, greatest}
use Rattle.problem_form.specs.Scanning.{scan, step, counting, end_statement_of, is_poly}
use Rattle.problem_form.proofs.Scans.{scan_on, scan_end}
use Rattle.problem_form.proofs.Marks.{comma_class, semicolon_class}
use Rattle.problem_form.proofs.ScanReads.{scan_reads, read_after, behind, end_place, mark_digits}

-- the counts behind a list of expressions, the last of which still has its mark before it
abbrev pub counted : Expression → List Expression → Scan → Scan
counted e es s = record s {
  expressions = s.expressions + length es;
  nesting = max s.nesting (greatest nesting (e ∷ es));
  digits = max s.digits (greatest most_digits (e ∷ es));
}

-- at the start of an `at` statement
abbrev pub begun : Scan → Scan
begun s = record s { place = Start; part = At; expressions = 0; statements = s.statements + 1 }

-- what is counted of `at` statements
abbrev pub all_counted : List (List Expression) → Scan → Scan
all_counted [] s = s
all_counted ([] ∷ statements) s = all_counted statements s
all_counted ((e ∷ es) ∷ statements) s = all_counted statements (end_statement_of At (counted e es (begun s)))

-- at the start of the statement of a denominator
abbrev pub poly_begun : Scan → Scan
poly_begun s = record s { place = Start; part = Poly; expressions = 0 }

same_end : (part : Part) (s : Scan) (from : Place) (k l n m d e : ℕ) → k ≡ l → n ≡ m → d ≡ e
    → end_statement_of part (record s { place = from; expressions = k; nesting = n; digits = d }) ≡ end_statement_of part (record s { expressions = l; nesting = m; digits = e })
same_end Ideal s from k l n m d e first second third = λ i. end_statement_of Ideal (record s { expressions = first i; nesting = second i; digits = third i })
same_end Poly s from k l n m d e first second third = λ i. end_statement_of Poly (record s { expressions = first i; nesting = second i; digits = third i })
same_end At s from k l n m d e first second third = λ i. end_statement_of At (record s { expressions = first i; nesting = second i; digits = third i })

module _ (letters : List ℕ) (are_letters : (x : ℕ) → is_among letters x ≡ true → is_ascii_alphabetic x ≡ true) where
  pub semicolon_read : (e : Expression) (s : Scan) (rest : List (List ℕ)) → IsFormed letters e → s.depth ≡ 0
      → scan letters (record s { place = Start }) (spelling e ++ (codes ";" ∷ rest))
      ≡ scan letters (end_statement_of s.part (record s { expressions = s.expressions; nesting = max s.nesting (nesting e); digits = max s.digits (most_digits e) })) rest
  semicolon_read e s rest formed flat =
      let none : digits_in (codes ";") ≡ 0 = mark_digits 59 refl in
      scan_reads letters are_letters e formed true s (codes ";" ∷ rest) tt (omega arith)
      ∙ read_after letters are_letters e (behind e s) (end_statement_of s.part (counting (codes ";") (behind e s))) (codes ";") rest class.Semicolon (semicolon_class letters) refl
      (ap (λ (b : Bool). cond b (Some (end_statement_of s.part (counting (codes ";") (behind e s)))) None) flat_test)
      ∙ ap (λ (z : Scan). scan letters z rest) (by_part s.part)
    where
      flat_test : (s.depth == 0) ≡ true
      flat_test = grind (arith, nat_tests)

      by_part : (part : Part) → end_statement_of part (counting (codes ";") (behind e s))
          ≡ end_statement_of part (record s { expressions = s.expressions; nesting = max s.nesting (nesting e); digits = max s.digits (most_digits e) })
      by_part Ideal = let none : digits_in (codes ";") ≡ 0 = mark_digits 59 refl in
          same_end Ideal s (end_place e) s.expressions s.expressions (max s.nesting (s.depth + nesting e)) (max s.nesting (nesting e)) (max (max s.digits (most_digits e)) (digits_in (codes ";"))) (max s.digits (most_digits e)) refl
          (omega (arith, flat)) (omega (arith, none))
      by_part Poly = let none : digits_in (codes ";") ≡ 0 = mark_digits 59 refl in
          same_end Poly s (end_place e) s.expressions s.expressions (max s.nesting (s.depth + nesting e)) (max s.nesting (nesting e)) (max (max s.digits (most_digits e)) (digits_in (codes ";"))) (max s.digits (most_digits e)) refl
          (omega (arith, flat)) (omega (arith, none))
      by_part At = let none : digits_in (codes ";") ≡ 0 = mark_digits 59 refl in
          same_end At s (end_place e) s.expressions s.expressions (max s.nesting (s.depth + nesting e)) (max s.nesting (nesting e)) (max (max s.digits (most_digits e)) (digits_in (codes ";"))) (max s.digits (most_digits e)) refl
          (omega (arith, flat)) (omega (arith, none))

  pub comma_read : (e : Expression) (s : Scan) (rest : List (List ℕ)) → IsFormed letters e → s.depth ≡ 0 → is_poly s.part ≡ false
      → scan letters (record s { place = Start }) (spelling e ++ (codes "," ∷ rest))
      ≡ scan letters (record s { place = Start; expressions = s.expressions + 1; nesting = max s.nesting (s.depth + nesting e); digits = max (max s.digits (most_digits e)) (digits_in (codes ",")) }) rest
  comma_read e s rest formed flat no_poly =
      scan_reads letters are_letters e formed true s (codes "," ∷ rest) tt (omega arith)
      ∙ read_after letters are_letters e (behind e s) (record (counting (codes ",") (behind e s)) { place = Start; expressions = s.expressions + 1 }) (codes ",") rest class.Comma (comma_class letters) refl
      (λ i. cond (flat_test i) (cond (no_poly i) None (Some (record (counting (codes ",") (behind e s)) { place = Start; expressions = s.expressions + 1 }))) None)
    where
      flat_test : (s.depth == 0) ≡ true
      flat_test = grind (arith, nat_tests)

  -- a statement with several expressions, or the one of a denominator
  pub list_read : (e : Expression) (es : List Expression) (s : Scan) (rest : List (List ℕ)) → AllByRecursion (IsFormed letters) (e ∷ es) → s.depth ≡ 0 → is_poly s.part ≡ false
      → scan letters (record s { place = Start }) (list_spelling (e ∷ es) ++ rest) ≡ scan letters (end_statement_of s.part (counted e es s)) rest
  list_read e [] s rest formed flat no_poly =
      ap (scan letters (record s { place = Start })) (append_assoc (spelling e) (codes ";" ∷ []) rest)
      ∙ semicolon_read e s rest formed.0 flat
      ∙ ap (λ (z : Scan). scan letters z rest)
      (same_end s.part s s.place s.expressions (s.expressions + 0) (max s.nesting (nesting e)) (max s.nesting (max (nesting e) 0)) (max s.digits (most_digits e)) (max s.digits (max (most_digits e) 0)) (omega arith) (omega arith) (omega arith))
  list_read e (f ∷ es) s rest formed flat no_poly =
      let none : digits_in (codes ",") ≡ 0 = mark_digits 44 refl in
      ap (scan letters (record s { place = Start })) (append_assoc (spelling e) (codes "," ∷ list_spelling (f ∷ es)) rest)
      ∙ comma_read e s (list_spelling (f ∷ es) ++ rest) formed.0 flat no_poly
      ∙ list_read f es (record s { place = Start; expressions = s.expressions + 1; nesting = max s.nesting (s.depth + nesting e); digits = max (max s.digits (most_digits e)) (digits_in (codes ",")) }) rest
      formed.1 flat no_poly
      ∙ ap (λ (z : Scan). scan letters z rest)
      (
      same_end s.part s Start (s.expressions + 1 + length es) (s.expressions + length (f ∷ es)) (max (max s.nesting (s.depth + nesting e)) (greatest nesting (f ∷ es))) (max s.nesting (greatest nesting (e ∷ f ∷ es)))
      (max (max (max s.digits (most_digits e)) (digits_in (codes ","))) (greatest most_digits (f ∷ es))) (max s.digits (greatest most_digits (e ∷ f ∷ es))) (omega arith) (omega (arith, flat)) (omega (arith, none))
      )

  -- ---- the statements behind the ideal

  at_step : (s : Scan) (ts : List (List ℕ)) → scan letters (record s { place = Between }) (codes "at" ∷ ts) ≡ scan letters (begun s) ts
  unfolding step
  at_step s ts = scan_on letters (record s { place = Between }) (begun s) (codes "at") (codes "at" ∷ ts) ts refl refl

  pub at_read : (statements : List (List Expression)) (s : Scan) → AllByRecursion (AreExpressions letters) statements → s.depth ≡ 0
      → scan letters (record s { place = Between }) (at_spelling statements) ≡ Some (all_counted statements (record s { place = Between }))
  at_read [] s formed flat = scan_end letters (record s { place = Between }) [] refl
  at_read ([] ∷ statements) s formed flat = absurd (let h : 1 ≤ 0 = formed.0.some in omega arith)
  at_read ((e ∷ es) ∷ statements) s formed flat =
      at_step s (list_spelling (e ∷ es) ++ at_spelling statements)
      ∙ list_read e es (begun s) (at_spelling statements) formed.0.formed flat refl
      ∙ at_read statements (end_statement_of At (counted e es (begun s))) formed.1 flat

  poly_step : (s : Scan) (name : List ℕ) (ts : List (List ℕ)) → is_name name ≡ true
      → scan letters (record s { place = Between; part = Ideal }) (codes "poly" ∷ name ∷ codes "=" ∷ ts) ≡ scan letters (poly_begun s) ts
  unfolding step
  poly_step s name ts named =
      scan_on letters (record s { place = Between; part = Ideal }) (record (poly_begun s) { place = PolyName }) (codes "poly") (codes "poly" ∷ name ∷ codes "=" ∷ ts) (name ∷ codes "=" ∷ ts) refl refl
      ∙ scan_on letters (record (poly_begun s) { place = PolyName }) (record (poly_begun s) { place = PolyEquals }) name (name ∷ codes "=" ∷ ts) (codes "=" ∷ ts) refl
      (ap (λ (b : Bool). cond b (Some (record (poly_begun s) { place = PolyEquals })) None) named)
      ∙ scan_on letters (record (poly_begun s) { place = PolyEquals }) (poly_begun s) (codes "=") (codes "=" ∷ ts) ts refl refl

  pub poly_read : (s : Scan) (name : List ℕ) (e : Expression) (rest : List (List ℕ)) → is_name name ≡ true → IsFormed letters e → s.depth ≡ 0
      → scan letters (record s { place = Between; part = Ideal }) (codes "poly" ∷ name ∷ codes "=" ∷ (spelling e ++ (codes ";" ∷ rest)))
      ≡ scan letters (record (poly_begun s) { place = Between; nesting = max s.nesting (nesting e); digits = max s.digits (most_digits e) }) rest
  poly_read s name e rest named formed flat = poly_step s name (spelling e ++ (codes ";" ∷ rest)) named ∙ semicolon_read e (poly_begun s) rest formed flat
