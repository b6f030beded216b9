-- The statements behind `ideal`, its name and `=`: what is spelled is counted, and what is taken is spelled.
use Rattle.std.proofs.Common.{◌≡◌, ℕ, ◌+◌, ◌≤◌, max, List, [], ◌∷◌, ◌++◌, Bool, true, false, cond, ◌==◌, ◌&&◌, length, refl, sym, ap, ◌∙◌, arith, append_assoc, length-append, Option, Some, None, suc, zero, inl, inr}
use Rattle.std.specs.Prelude.{codes, flat_map, option_and_then, ◌⊎◌}
use Rattle.std.specs.Char.{is_ascii_alphabetic}
use Rattle.std.specs.List.{AllByRecursion}
use Rattle.std.proofs.lemmas.Bool.Decides.{nat_tests}
use Rattle.problem_form.specs.declared.words.Class.TheVariants as class
use Rattle.problem_form.specs.declared.scanning.Place.TheVariants.{Start, Between, PolyName, PolyEquals}
use Rattle.problem_form.specs.declared.scanning.Part.TheVariants.{Ideal, Poly, At}
use Rattle.problem_form.specs.declared.scanning.Scan.{Scan}
use Rattle.problem.specs.Letters.{is_among}
use Rattle.problem_form.specs.Words.{is_name, same_token, digits_in}
use Rattle.problem_form.specs.Expressions.{Expression, IsFormed, spelling, nesting, most_digits}
use Rattle.problem_form.specs.ProblemText.{DenominatorText, list_spelling, denominator_spelling, at_spelling, AreExpressions, IsDenominator, greatest}
use Rattle.problem_form.specs.Forms.{body_spelling, Counts}
use Rattle.problem_form.specs.Scanning.{scan, step, end_statement_of, is_poly, is_ideal, first_scan}
use Rattle.problem_form.proofs.Scans.{scan_next}
use Rattle.problem_form.proofs.Marks.{comma_class}
use Rattle.problem_form.proofs.Rings.{same_is, bind_some}
use Rattle.problem_form.proofs.ScanReads.{scan_reads, refused_after, behind}
use Rattle.problem_form.proofs.ScanTrees.{Found, scan_finds, scan_none}
use Rattle.problem_form.proofs.ScanLists.{counted, begun, all_counted, poly_begun, semicolon_read, comma_read, list_read, at_read, poly_read}

greatest_both : {X : Type 0} (f : X → ℕ) (xs ys : List X) → greatest f (xs ++ ys) ≡ max (greatest f xs) (greatest f ys)
greatest_both f [] ys = omega arith
greatest_both f (x ∷ xs) ys = omega (arith, greatest_both f xs ys)

record AtCounts (ats : List (List Expression)) (s f : Scan) : Type 0 where
  place : f.place ≡ s.place
  generators : f.generators ≡ s.generators
  statements : f.statements ≡ s.statements + length ats
  longest : f.longest ≡ max s.longest (greatest (λ es. length es) ats)
  nesting : f.nesting ≡ max s.nesting (greatest nesting (flat_map (λ es. es) ats))
  digits : f.digits ≡ max s.digits (greatest most_digits (flat_map (λ es. es) ats))

at_counts : (letters : List ℕ) (statements : List (List Expression)) (s : Scan) → AllByRecursion (AreExpressions letters) statements → s.place ≡ Between → AtCounts statements s (all_counted statements s)
at_counts letters [] s formed is = record { place = refl; generators = refl; statements = omega arith; longest = omega arith; nesting = omega arith; digits = omega arith }
at_counts letters ([] ∷ statements) s formed is = absurd (let h : 1 ≤ 0 = formed.0.some in omega arith)
at_counts letters ((e ∷ es) ∷ statements) s formed is =
    let more = at_counts letters statements (end_statement_of At (counted e es (begun s))) formed.1 refl in
    record {
      place = more.place ∙ sym is;
      generators = more.generators;
      statements = omega (arith, more.statements);
      longest = omega (arith, more.longest);
      nesting = omega (arith, more.nesting, greatest_both nesting (e ∷ es) (flat_map (λ fs. fs) statements));
      digits = omega (arith, more.digits, greatest_both most_digits (e ∷ es) (flat_map (λ fs. fs) statements));
    }

pub record BodyRead (letters : List ℕ) (generators : List Expression) (denominator : Option DenominatorText) (at : List (List Expression)) : Type 0 where
  pub final : Scan
  pub run : scan letters first_scan (body_spelling generators denominator at) ≡ Some final
  pub counts : Counts generators denominator at final

module _ (letters : List ℕ) (are_letters : (x : ℕ) → is_among letters x ≡ true → is_ascii_alphabetic x ≡ true) where
  -- ---- what is spelled is counted

  pub body_read : (generators : List Expression) (denominator : Option DenominatorText) (at : List (List Expression)) → AreExpressions letters generators → IsDenominator letters denominator
      → AllByRecursion (AreExpressions letters) at → BodyRead letters generators denominator at
  body_read [] denominator at some named formed = absurd (let h : 1 ≤ 0 = some.some in omega arith)
  body_read (e ∷ es) None at some named formed =
      let ideal : Scan = end_statement_of Ideal (counted e es first_scan) in
      let more = at_counts letters at ideal formed refl in
      record {
        final = all_counted at ideal;
        run = list_read letters are_letters e es first_scan (at_spelling at) some.formed refl refl ∙ at_read letters are_letters at ideal formed refl;
        counts = record {
          place = more.place;
          generators = omega (arith, more.generators);
          statements = omega (arith, more.statements);
          longest = omega (arith, more.longest);
          nesting = omega (arith, more.nesting, greatest_both nesting (e ∷ es) (flat_map (λ fs. fs) at));
          digits = omega (arith, more.digits, greatest_both most_digits (e ∷ es) (flat_map (λ fs. fs) at));
        };
      }
  body_read (e ∷ es) (Some d) at some named formed =
      let ideal : Scan = end_statement_of Ideal (counted e es first_scan) in
      let poly : Scan = record (poly_begun ideal) { place = Between; nesting = max ideal.nesting (nesting d.expression); digits = max ideal.digits (most_digits d.expression) } in
      let more = at_counts letters at poly formed refl in
      record {
        final = all_counted at poly;
        run =
            list_read letters are_letters e es first_scan (denominator_spelling (Some d) ++ at_spelling at) some.formed refl refl
            ∙ ap (λ (ts : List (List ℕ)). scan letters ideal (codes "poly" ∷ d.name ∷ codes "=" ∷ ts)) (append_assoc (spelling d.expression) (codes ";" ∷ []) (at_spelling at))
            ∙ poly_read letters are_letters ideal d.name d.expression (at_spelling at) named.0 named.1 refl
            ∙ at_read letters are_letters at poly formed refl;
        counts = record {
          place = more.place;
          generators = omega (arith, more.generators);
          statements = omega (arith, more.statements);
          longest = omega (arith, more.longest);
          nesting = omega (arith, more.nesting, greatest_both nesting (e ∷ es) (d.expression ∷ flat_map (λ fs. fs) at));
          digits = omega (arith, more.digits, greatest_both most_digits (e ∷ es) (d.expression ∷ flat_map (λ fs. fs) at));
        };
      }

  -- ---- what is taken is spelled

  abbrev behind_comma : Expression → Scan → Scan
  behind_comma e s = record s { place = Start; expressions = s.expressions + 1; nesting = max s.nesting (s.depth + nesting e); digits = max (max s.digits (most_digits e)) (digits_in (codes ",")) }

  record ListFound (s final : Scan) (ts : List (List ℕ)) : Type 0 where
    first : Expression
    others : List Expression
    rest : List (List ℕ)
    spelled : ts ≡ list_spelling (first ∷ others) ++ rest
    formed : AllByRecursion (IsFormed letters) (first ∷ others)
    run : scan letters (end_statement_of s.part (counted first others s)) rest ≡ Some final

  shorter : (pre : List (List ℕ)) (mark : List ℕ) (ts rest : List (List ℕ)) → ts ≡ pre ++ (mark ∷ rest) → length rest + 1 ≤ length ts
  shorter pre mark ts rest is = let e : length ts ≡ length pre + length (mark ∷ rest) = ap length is ∙ length-append pre (mark ∷ rest) in omega (arith, e)

  list_is : (s final : Scan) (ts rest : List (List ℕ)) (e : Expression) (es : List Expression) → ts ≡ list_spelling (e ∷ es) ++ rest → AllByRecursion (IsFormed letters) (e ∷ es) → s.depth ≡ 0
      → is_poly s.part ≡ false → scan letters (record s { place = Start }) ts ≡ Some final → ListFound s final ts
  list_is s final ts rest e es spelled formed flat no_poly run = record {
    first = e;
    others = es;
    rest = rest;
    spelled = spelled;
    formed = formed;
    run = sym (list_read letters are_letters e es s rest formed flat no_poly) ∙ sym (ap (scan letters (record s { place = Start })) spelled) ∙ run;
  }

  list_found : (n : ℕ) (s final : Scan) (ts : List (List ℕ)) → length ts ≤ n → s.depth ≡ 0 → is_poly s.part ≡ false → final.place ≡ Between
      → scan letters (record s { place = Start }) ts ≡ Some final → ListFound s final ts
  list_found zero s final ts within flat no_poly end run =
      let found : Found letters ts = scan_finds letters (record s { place = Start }) final ts refl flat end run in
      absurd (omega (arith, within, shorter (spelling found.tree) found.mark ts found.rest found.spelled))
  list_found (suc n) s final ts within flat no_poly end run =
      let found : Found letters ts = scan_finds letters (record s { place = Start }) final ts refl flat end run in by_mark found found.ends (λ later_s later_ts. list_found n later_s final later_ts)
    where
      by_mark : (found : Found letters ts) → (found.mark ≡ codes ",") ⊎ (found.mark ≡ codes ";")
          → ((later_s : Scan) (later_ts : List (List ℕ)) → length later_ts ≤ n → later_s.depth ≡ 0 → is_poly later_s.part ≡ false → final.place ≡ Between
          → scan letters (record later_s { place = Start }) later_ts ≡ Some final → ListFound later_s final later_ts)
          → ListFound s final ts
      by_mark found (inr is) more =
          list_is s final ts found.rest found.tree []
          (found.spelled ∙ ap (λ (m : List ℕ). spelling found.tree ++ (m ∷ found.rest)) is ∙ sym (append_assoc (spelling found.tree) (codes ";" ∷ []) found.rest))
          (found.formed, tt) flat no_poly run
      by_mark found (inl is) more =
          let here : ts ≡ spelling found.tree ++ (codes "," ∷ found.rest) = found.spelled ∙ ap (λ (m : List ℕ). spelling found.tree ++ (m ∷ found.rest)) is in
          let less = shorter (spelling found.tree) (codes ",") ts found.rest here in
          let later =
          more (behind_comma found.tree s) found.rest (omega (arith, within, less)) flat no_poly end
          (sym (comma_read letters are_letters found.tree s found.rest found.formed flat no_poly) ∙ sym (ap (scan letters (record s { place = Start })) here) ∙ run)
          in
          list_is s final ts later.rest found.tree (later.first ∷ later.others)
          (here ∙ ap (λ (xs : List (List ℕ)). spelling found.tree ++ (codes "," ∷ xs)) later.spelled
          ∙ sym (append_assoc (spelling found.tree) (codes "," ∷ list_spelling (later.first ∷ later.others)) later.rest))
          (found.formed, later.formed) flat no_poly run

  -- the statement of a denominator has one expression
  comma_refused : (e : Expression) (s : Scan) (rest : List (List ℕ)) → IsFormed letters e → s.depth ≡ 0 → scan letters (record s { place = Start; part = Poly }) (spelling e ++ (codes "," ∷ rest)) ≡ None
  comma_refused e s rest formed flat =
      scan_reads letters are_letters e formed true (record s { part = Poly }) (codes "," ∷ rest) tt (omega arith)
      ∙ refused_after letters are_letters e (behind e (record s { part = Poly })) (codes ",") rest class.Comma (comma_class letters) refl
      (ap (λ (b : Bool). cond b None None) flat_test)
    where
      flat_test : (s.depth == 0) ≡ true
      flat_test = grind (arith, nat_tests)

  record PolyFound (s final : Scan) (ts : List (List ℕ)) : Type 0 where
    tree : Expression
    rest : List (List ℕ)
    spelled : ts ≡ spelling tree ++ (codes ";" ∷ rest)
    formed : IsFormed letters tree
    run : scan letters (record s { place = Between; part = Poly; nesting = max s.nesting (nesting tree); digits = max s.digits (most_digits tree) }) rest ≡ Some final

  poly_found : (s final : Scan) (ts : List (List ℕ)) → s.depth ≡ 0 → final.place ≡ Between → scan letters (record s { place = Start; part = Poly }) ts ≡ Some final → PolyFound s final ts
  poly_found s final ts flat end run =
      let found : Found letters ts = scan_finds letters (record s { place = Start; part = Poly }) final ts refl flat end run in by_mark found found.ends
    where
      by_mark : (found : Found letters ts) → (found.mark ≡ codes ",") ⊎ (found.mark ≡ codes ";") → PolyFound s final ts
      by_mark found (inl is) =
          let here : ts ≡ spelling found.tree ++ (codes "," ∷ found.rest) = found.spelled ∙ ap (λ (m : List ℕ). spelling found.tree ++ (m ∷ found.rest)) is in
          let bad : None ≡ Some final = sym (comma_refused found.tree s found.rest found.formed flat) ∙ sym (ap (scan letters (record s { place = Start; part = Poly })) here) ∙ run in
          absurd (cc)
      by_mark found (inr is) =
          let here : ts ≡ spelling found.tree ++ (codes ";" ∷ found.rest) = found.spelled ∙ ap (λ (m : List ℕ). spelling found.tree ++ (m ∷ found.rest)) is in
          record {
            tree = found.tree;
            rest = found.rest;
            spelled = here;
            formed = found.formed;
            run =
                sym (semicolon_read letters are_letters found.tree (record s { part = Poly }) found.rest found.formed flat)
                ∙ sym (ap (scan letters (record s { place = Start; part = Poly })) here) ∙ run;
          }

  abbrev AtNext : Scan → Scan → List ℕ → List (List ℕ) → Type 0
  AtNext s final t rest = (t ≡ codes "at") × (scan letters (begun s) rest ≡ Some final)

  abbrev PolyNext : Scan → Scan → List ℕ → List (List ℕ) → Type 0
  PolyNext s final t rest = (t ≡ codes "poly") × (is_ideal s.part ≡ true) × (scan letters (record (poly_begun s) { place = PolyName }) rest ≡ Some final)

  next_found : (s final : Scan) (t : List ℕ) (rest : List (List ℕ)) → scan letters (record s { place = Between }) (t ∷ rest) ≡ Some final → AtNext s final t rest ⊎ PolyNext s final t rest
  unfolding step
  next_found s final t rest run =
      by_case (same_token t (codes "at")) (same_token t (codes "poly")) (is_ideal s.part) refl refl refl (sym (scan_next letters (record s { place = Between }) t rest) ∙ run)
    where
      by_case : (a b c : Bool) → same_token t (codes "at") ≡ a → same_token t (codes "poly") ≡ b → is_ideal s.part ≡ c
          → option_and_then (λ (n : Scan). scan letters n rest) (cond a (Some (begun s)) (cond (b && c) (Some (record (poly_begun s) { place = PolyName })) None)) ≡ Some final
          → AtNext s final t rest ⊎ PolyNext s final t rest
      by_case true b c first second third h = inl (same_is t (codes "at") first, h)
      by_case false true true first second third h = inr (same_is t (codes "poly") second, third, h)
      by_case false true false first second third h = absurd (cc)
      by_case false false c first second third h = absurd (cc)

  record AtFound (ts : List (List ℕ)) : Type 0 where
    statements : List (List Expression)
    spelled : ts ≡ at_spelling statements
    formed : AllByRecursion (AreExpressions letters) statements

  at_more : (t : List ℕ) (e : Expression) (es : List Expression) (ts rest : List (List ℕ)) → t ≡ codes "at" → ts ≡ list_spelling (e ∷ es) ++ rest → AllByRecursion (IsFormed letters) (e ∷ es) → AtFound rest
      → AtFound (t ∷ ts)
  at_more t e es ts rest is spelled formed more = record {
    statements = (e ∷ es) ∷ more.statements;
    spelled = (λ i. is i ∷ spelled i) ∙ ap (λ (xs : List (List ℕ)). codes "at" ∷ (list_spelling (e ∷ es) ++ xs)) more.spelled;
    formed = (record { some = omega arith; formed = formed }, more.formed);
  }

  at_found : (n : ℕ) (s final : Scan) (ts : List (List ℕ)) → length ts ≤ n → s.depth ≡ 0 → is_ideal s.part ≡ false → final.place ≡ Between
      → scan letters (record s { place = Between }) ts ≡ Some final → AtFound ts
  at_found n s final [] within flat no_ideal end run = record { statements = []; spelled = refl; formed = tt }
  at_found zero s final (t ∷ ts) within flat no_ideal end run = absurd (omega (arith, within))
  at_found (suc n) s final (t ∷ ts) within flat no_ideal end run = by_next (next_found s final t ts run) (λ later_s later_ts. at_found n later_s final later_ts)
    where
      by_next : AtNext s final t ts ⊎ PolyNext s final t ts
          → ((later_s : Scan) (later_ts : List (List ℕ)) → length later_ts ≤ n → later_s.depth ≡ 0 → is_ideal later_s.part ≡ false → final.place ≡ Between
          → scan letters (record later_s { place = Between }) later_ts ≡ Some final → AtFound later_ts)
          → AtFound (t ∷ ts)
      by_next (inr h) more = absurd (let e : false ≡ true = sym no_ideal ∙ h.1 in cc)
      by_next (inl h) more =
          let list = list_found (length ts) (begun s) final ts (omega arith) flat refl end h.1 in
          let long : length ts ≡ length (list_spelling (list.first ∷ list.others)) + length list.rest = ap length list.spelled ∙ length-append (list_spelling (list.first ∷ list.others)) list.rest in
          at_more t list.first list.others ts list.rest h.0 list.spelled list.formed
          (more (end_statement_of At (counted list.first list.others (begun s))) list.rest (omega (arith, within, long)) flat refl end list.run)

  record NameFound (s final : Scan) (ts : List (List ℕ)) : Type 0 where
    name : List ℕ
    rest : List (List ℕ)
    named : is_name name ≡ true
    spelled : ts ≡ name ∷ codes "=" ∷ rest
    run : scan letters (record s { place = Start }) rest ≡ Some final

  step_found : (s final : Scan) (t : List ℕ) (ts : List (List ℕ)) → scan letters s (t ∷ ts) ≡ Some final → (n : Scan) × (step letters s t ≡ Some n) × (scan letters n ts ≡ Some final)
  step_found s final t ts run = bind_some (step letters s t) (λ (n : Scan). scan letters n ts) final (sym (scan_next letters s t ts) ∙ run)

  equals_found : (s final : Scan) (name : List ℕ) (ts : List (List ℕ)) → is_name name ≡ true → final.place ≡ Between → scan letters (record s { place = PolyEquals }) ts ≡ Some final → NameFound s final (name ∷ ts)
  unfolding step
  equals_found s final name [] named end run = absurd (let e : PolyEquals ≡ Between = ap (λ (z : Scan). z.place) (scan_none letters (record s { place = PolyEquals }) final run) ∙ end in cc)
  equals_found s final name (t ∷ ts) named end run =
      let next = step_found (record s { place = PolyEquals }) final t ts run in by_case (same_token t (codes "=")) refl next.0 next.1 next.2
    where
      by_case : (b : Bool) → same_token t (codes "=") ≡ b → (n : Scan) → cond b (Some (record s { place = Start })) None ≡ Some n → scan letters n ts ≡ Some final → NameFound s final (name ∷ t ∷ ts)
      by_case false is n moves h = absurd (cc)
      by_case true is n moves h =
          let same : record s { place = Start } ≡ n = cc in
          record { name = name; rest = ts; named = named; spelled = λ i. name ∷ same_is t (codes "=") is i ∷ ts; run = ap (λ (z : Scan). scan letters z ts) same ∙ h }

  name_found : (s final : Scan) (ts : List (List ℕ)) → final.place ≡ Between → scan letters (record s { place = PolyName }) ts ≡ Some final → NameFound s final ts
  unfolding step
  name_found s final [] end run = absurd (let e : PolyName ≡ Between = ap (λ (z : Scan). z.place) (scan_none letters (record s { place = PolyName }) final run) ∙ end in cc)
  name_found s final (t ∷ ts) end run =
      let next = step_found (record s { place = PolyName }) final t ts run in by_case (is_name t) refl next.0 next.1 next.2
    where
      by_case : (b : Bool) → is_name t ≡ b → (n : Scan) → cond b (Some (record s { place = PolyEquals })) None ≡ Some n → scan letters n ts ≡ Some final → NameFound s final (t ∷ ts)
      by_case false is n moves h = absurd (cc)
      by_case true is n moves h =
          let same : record s { place = PolyEquals } ≡ n = cc in
          equals_found s final t ts is end (ap (λ (z : Scan). scan letters z ts) same ∙ h)

  pub record BodyFound (ts : List (List ℕ)) : Type 0 where
    pub generators : List Expression
    pub denominator : Option DenominatorText
    pub at : List (List Expression)
    pub spelled : ts ≡ body_spelling generators denominator at
    pub generators_formed : AreExpressions letters generators
    pub denominator_formed : IsDenominator letters denominator
    pub at_formed : AllByRecursion (AreExpressions letters) at

  record RestFound (ts : List (List ℕ)) : Type 0 where
    denominator : Option DenominatorText
    at : List (List Expression)
    spelled : ts ≡ denominator_spelling denominator ++ at_spelling at
    denominator_formed : IsDenominator letters denominator
    at_formed : AllByRecursion (AreExpressions letters) at

  rest_found : (s final : Scan) (ts : List (List ℕ)) → s.depth ≡ 0 → final.place ≡ Between → scan letters (record s { place = Between }) ts ≡ Some final → RestFound ts
  rest_found s final [] flat end run = record { denominator = None; at = []; spelled = refl; denominator_formed = tt; at_formed = tt }
  rest_found s final (t ∷ ts) flat end run = by_next (next_found s final t ts run)
    where
      by_next : AtNext s final t ts ⊎ PolyNext s final t ts → RestFound (t ∷ ts)
      by_next (inl h) =
          let list = list_found (length ts) (begun s) final ts (omega arith) flat refl end h.1 in
          let found =
          at_more t list.first list.others ts list.rest h.0 list.spelled list.formed
          (at_found (length list.rest) (end_statement_of At (counted list.first list.others (begun s))) final list.rest (omega arith) flat refl end list.run)
          in
          record { denominator = None; at = found.statements; spelled = found.spelled; denominator_formed = tt; at_formed = found.formed }
      by_next (inr h) =
          let named = name_found (poly_begun s) final ts end h.2 in
          let poly = poly_found (poly_begun s) final named.rest flat end named.run in
          let found =
          at_found (length poly.rest) (record (poly_begun s) { place = Between; nesting = max s.nesting (nesting poly.tree); digits = max s.digits (most_digits poly.tree) }) final poly.rest (omega arith) flat refl end poly.run
          in
          record {
            denominator = Some (record { name = named.name; expression = poly.tree });
            at = found.statements;
            spelled =
                (λ i. h.0 i ∷ named.spelled i) ∙ ap (λ (xs : List (List ℕ)). codes "poly" ∷ named.name ∷ codes "=" ∷ xs) (poly.spelled ∙ ap (λ (xs : List (List ℕ)). spelling poly.tree ++ (codes ";" ∷ xs)) found.spelled)
                ∙ sym (ap (λ (xs : List (List ℕ)). codes "poly" ∷ named.name ∷ codes "=" ∷ xs) (append_assoc (spelling poly.tree) (codes ";" ∷ []) (at_spelling found.statements)));
            denominator_formed = (named.named, poly.formed);
            at_formed = found.formed;
          }

  pub body_found : (final : Scan) (ts : List (List ℕ)) → final.place ≡ Between → scan letters first_scan ts ≡ Some final → BodyFound ts
  body_found final ts end run =
      let list = list_found (length ts) first_scan final ts (omega arith) refl refl end run in
      let more = rest_found (end_statement_of Ideal (counted list.first list.others first_scan)) final list.rest refl end list.run in
      record {
        generators = list.first ∷ list.others;
        denominator = more.denominator;
        at = more.at;
        spelled = list.spelled ∙ ap (λ (xs : List (List ℕ)). list_spelling (list.first ∷ list.others) ++ xs) more.spelled;
        generators_formed = record { some = omega arith; formed = list.formed };
        denominator_formed = more.denominator_formed;
        at_formed = more.at_formed;
      }
