-- A whole text: its form is taken exactly where it is of the grammar.
use Rattle.std.proofs.Common.{◌≡◌, ℕ, ◌<◌, ◌≤◌, ◌≢◌, List, [], ◌∷◌, ◌++◌, Bool, true, false, cond, length, refl, sym, ap, ◌∙◌, subst, arith, append_assoc, Option, Some, None}
use Rattle.std.specs.Prelude.{codes, All, AllPairs, slice_index, option_and_then, option_map, unwrap_or}
use Rattle.std.proofs.lemmas.List.{get_or_default}
use Rattle.problem_form.specs.declared.scanning.Place.{Place}
use Rattle.problem_form.specs.declared.scanning.Place.TheVariants.{Start, Operand, Base, Caret, Factor, Between, PolyName, PolyEquals}
use Rattle.problem_form.specs.declared.scanning.Scan.{Scan}
use Rattle.problem.specs.Letters.{IsLetter}
use Rattle.problem.proofs.Places.{all_alphabetic, letters_alphabetic}
use Rattle.problem_form.specs.Tokens.{tokens}
use Rattle.problem_form.specs.Words.{is_name, is_number}
use Rattle.problem_form.specs.Reading.{begun_at, ring_at, Gives}
use Rattle.problem_form.specs.Scanning.{scan, first_scan}
use Rattle.problem_form.specs.ProblemText.{ProblemText, IsGrammatical, IsTextOf, HasText, problem_spelling, letters_spelling, ideal_spelling, denominator_spelling, at_spelling}
use Rattle.problem_form.specs.Forms.{is_between, statements_at, body_spelling, IsFormOf, IsForm, AreRingLetters}
use Rattle.problem_form.proofs.Rings.{ring_is, ring_some, RingFound, ideal_is, begun_some, Begun, bind_some}
use Rattle.problem_form.proofs.Bodies.{body_read, BodyRead, body_found, BodyFound}

-- ---- letters

-- no letter stands twice, as the code tests it
abbrev pub AreDistinct : List ℕ → Type 0
AreDistinct letters = (i : ℕ) → i < length letters → (j : ℕ) → j < i → slice_index letters j ≢ slice_index letters i

distinct_pairs : (letters : List ℕ) → AreDistinct letters → AllPairs (λ x y. x ≢ y) letters
distinct_pairs letters distinct i j d before within same =
    distinct j within i before (get_or_default letters i 0 d (omega arith) ∙ same ∙ get_or_default letters j d 0 within)

pairs_distinct : (letters : List ℕ) → AllPairs (λ x y. x ≢ y) letters → AreDistinct letters
pairs_distinct letters pairs i within j before = pairs j i 0 before within

-- ---- the ring of a text

abbrev statements_spelling : ProblemText → List (List ℕ)
statements_spelling t = ideal_spelling t ++ (denominator_spelling t.denominator ++ at_spelling t.at)

abbrev ring_parts : List ℕ → List ℕ → List (List ℕ) → Option (List ℕ × List ℕ × List (List ℕ))
ring_parts digits letters more = Some (digits, letters, more)

no_more : (letters : List ℕ) (x : ℕ) → length (x ∷ letters) ≡ 1 → letters ≡ []
no_more [] x h = refl
no_more (y ∷ letters) x h = absurd (omega (arith, h))

ring_read : (name digits : List ℕ) (is_bare : Bool) (letters : List ℕ) (more : List (List ℕ)) → is_name name ≡ true → is_number digits ≡ true → 1 ≤ length letters → All IsLetter letters
    → (is_bare ≡ true → length letters ≡ 1)
    → ring_at (codes "ring" ∷ name ∷ codes "=" ∷ digits ∷ codes "," ∷ ((letters_spelling is_bare letters ++ (codes "," ∷ codes "dp" ∷ codes ";" ∷ [])) ++ more)) ≡ ring_parts digits letters more
ring_read name digits is_bare [] more named number some each bare = absurd (omega (arith, some))
ring_read name digits is_bare (x ∷ letters) more named number some each bare =
    ap (λ (ts : List (List ℕ)). ring_at (codes "ring" ∷ name ∷ codes "=" ∷ digits ∷ codes "," ∷ ts)) (append_assoc (letters_spelling is_bare (x ∷ letters)) (codes "," ∷ codes "dp" ∷ codes ";" ∷ []) more)
    ∙ ring_is name digits is_bare x letters more named number (all_alphabetic (x ∷ letters) each) (λ h. no_more letters x (bare h))

text_ring : (t : ProblemText) → IsGrammatical t → ring_at (problem_spelling t) ≡ ring_parts t.characteristic t.letters (statements_spelling t)
text_ring t g = ring_read t.ring_name t.characteristic t.is_bare t.letters (statements_spelling t) g.ring_name g.characteristic g.some g.letters g.bare

-- ---- the statements of a text

statements_on : (letters : List ℕ) (ts body : List (List ℕ)) (s : Scan) → begun_at (codes "ideal") ts ≡ Some body → scan letters first_scan body ≡ Some s → s.place ≡ Between → statements_at letters ts ≡ Some (s, body)
unfolding statements_at
statements_on letters ts body s begun run end = rw begun (rw run (rw end refl))

text_statements : (t : ProblemText) → (g : IsGrammatical t) → (read : BodyRead t.letters t.generators t.denominator t.at)
    → statements_at t.letters (statements_spelling t) ≡ Some (read.final, body_spelling t.generators t.denominator t.at)
text_statements t g read =
    statements_on t.letters (statements_spelling t) (body_spelling t.generators t.denominator t.at) read.final (ideal_is t.ideal_name (body_spelling t.generators t.denominator t.at) g.ideal_name) read.run read.counts.place

text_body : (t : ProblemText) → IsGrammatical t → BodyRead t.letters t.generators t.denominator t.at
text_body t g = body_read t.letters (letters_alphabetic t.letters g.letters) t.generators t.denominator t.at g.generators g.denominator g.at

record StatementsFound (letters : List ℕ) (ts body : List (List ℕ)) (s : Scan) : Type 0 where
  begun : begun_at (codes "ideal") ts ≡ Some body
  run : scan letters first_scan body ≡ Some s
  end : s.place ≡ Between

between_is : (place : Place) → is_between place ≡ true → place ≡ Between
between_is Start h = absurd (cc)
between_is Operand h = absurd (cc)
between_is Base h = absurd (cc)
between_is Caret h = absurd (cc)
between_is Factor h = absurd (cc)
between_is Between h = refl
between_is PolyName h = absurd (cc)
between_is PolyEquals h = absurd (cc)

abbrev counted : List (List ℕ) → Scan → Option (Scan × List (List ℕ))
counted body s = Some (s, body)

abbrev when_between : List (List ℕ) → Scan → Option (Scan × List (List ℕ))
when_between body s = cond (is_between s.place) (counted body s) None

statements_found : (letters : List ℕ) (ts body : List (List ℕ)) (s : Scan) → statements_at letters ts ≡ counted body s → StatementsFound letters ts body s
unfolding statements_at
statements_found letters ts body s h =
    let first = bind_some (begun_at (codes "ideal") ts) (λ (b : List (List ℕ)). option_and_then (when_between b) (scan letters first_scan b)) (s, body) h in
    let second = bind_some (scan letters first_scan first.0) (when_between first.0) (s, body) first.2 in
    by_case first.0 second.0 first.1 second.1 (is_between second.0.place) refl second.2
  where
    by_case : (b : List (List ℕ)) (n : Scan) → begun_at (codes "ideal") ts ≡ Some b → scan letters first_scan b ≡ Some n → (k : Bool) → is_between n.place ≡ k → cond k (counted b n) None ≡ counted body s
        → StatementsFound letters ts body s
    by_case b n begun run false is e = absurd (cc)
    by_case b n begun run true is e =
        let same = ap (λ (o : Option (Scan × List (List ℕ))). unwrap_or o (s, body)) e in
        let first : n ≡ s = ap (λ (q : Scan × List (List ℕ)). q.0) same in
        let second : b ≡ body = ap (λ (q : Scan × List (List ℕ)). q.1) same in
        record {
          begun = begun ∙ ap (λ (x : List (List ℕ)). Some x) second;
          run = sym (ap (scan letters first_scan) second) ∙ run ∙ ap (λ (x : Scan). Some x) first;
          end = sym (ap (λ (x : Scan). x.place) first) ∙ between_is n.place is;
        }

-- ---- the form of a text

pub no_ring : (bytes : List ℕ) → ring_at (tokens bytes) ≡ None → HasText bytes → ⊥
no_ring bytes none (t, is) =
    let e : None ≡ ring_parts t.characteristic t.letters (statements_spelling t) = sym none ∙ ap ring_at is.spelled ∙ text_ring t is.grammatical in absurd (cc)

module _ (bytes digits letters : List ℕ) (more : List (List ℕ)) (ring : ring_at (tokens bytes) ≡ Some (digits, letters, more)) where
  same_ring : (t : ProblemText) → IsTextOf bytes t → (digits ≡ t.characteristic) × (letters ≡ t.letters) × (more ≡ statements_spelling t)
  same_ring t is =
      let e : ring_parts digits letters more ≡ ring_parts t.characteristic t.letters (statements_spelling t) = sym ring ∙ ap ring_at is.spelled ∙ text_ring t is.grammatical in
      let same = ap (λ (o : Option (List ℕ × List ℕ × List (List ℕ))). unwrap_or o (digits, letters, more)) e in
      (ap (λ (q : List ℕ × List ℕ × List (List ℕ)). q.0) same, ap (λ (q : List ℕ × List ℕ × List (List ℕ)). q.1) same, ap (λ (q : List ℕ × List ℕ × List (List ℕ)). q.2) same)

  pub no_letters : (All IsLetter letters × AreDistinct letters → ⊥) → HasText bytes → ⊥
  no_letters bad (t, is) =
      let P : List ℕ → Type 0 = λ (l : List ℕ). All IsLetter l × AreDistinct l in
      bad (subst P (sym (same_ring t is).1) (is.grammatical.letters, pairs_distinct t.letters is.grammatical.distinct))

  pub no_statements : statements_at letters more ≡ None → HasText bytes → ⊥
  no_statements none (t, is) =
      let read = text_body t is.grammatical in
      let same = same_ring t is in
      let e : None ≡ counted (body_spelling t.generators t.denominator t.at) read.final = sym none ∙ (λ i. statements_at (same.1 i) (same.2 i)) ∙ text_statements t is.grammatical read in
      absurd (cc)

  pub ring_letters : All IsLetter letters × AreDistinct letters → AreRingLetters letters
  ring_letters known =
      let found : RingFound (tokens bytes) digits letters more = ring_some (tokens bytes) digits letters more ring in
      let long : length letters ≡ length (found.first ∷ found.others) = ap length found.letters_are in
      record { some = omega (arith, long); each = known.0; distinct = distinct_pairs letters known.1 }

  text_found : (body : List (List ℕ)) (s : Scan) → All IsLetter letters × AreDistinct letters → statements_at letters more ≡ Some (s, body) → HasText bytes
  text_found body s known statements =
      let found : RingFound (tokens bytes) digits letters more = ring_some (tokens bytes) digits letters more ring in
      let rest : StatementsFound letters more body s = statements_found letters more body s statements in
      let begun : Begun (codes "ideal") more body = begun_some (codes "ideal") more body rest.begun in
      let b : BodyFound letters (letters_alphabetic letters known.0) body = body_found letters (letters_alphabetic letters known.0) s body rest.end rest.run in
      let long : length letters ≡ length (found.first ∷ found.others) = ap length found.letters_are in
      let text : ProblemText = record {
        ring_name = found.name;
        characteristic = digits;
        is_bare = found.is_bare;
        letters = letters;
        ideal_name = begun.name;
        generators = b.generators;
        denominator = b.denominator;
        at = b.at;
      } in (
        text,
        record {
          grammatical = record {
            ring_name = found.named;
            characteristic = found.number;
            bare = λ h. long ∙ ap (λ (xs : List ℕ). length (found.first ∷ xs)) (found.bare h);
            some = omega (arith, long);
            letters = known.0;
            distinct = distinct_pairs letters known.1;
            ideal_name = begun.named;
            generators = b.generators_formed;
            denominator = b.denominator_formed;
            at = b.at_formed;
          };
          spelled =
              found.spelled
              ∙ ap (λ (xs : List ℕ). codes "ring" ∷ found.name ∷ codes "=" ∷ digits ∷ codes "," ∷ (letters_spelling found.is_bare xs ++ (codes "," ∷ codes "dp" ∷ codes ";" ∷ more))) (sym found.letters_are)
              ∙ ap (λ (xs : List (List ℕ)). codes "ring" ∷ found.name ∷ codes "=" ∷ digits ∷ codes "," ∷ (letters_spelling found.is_bare letters ++ (codes "," ∷ codes "dp" ∷ codes ";" ∷ xs)))
              (begun.is ∙ ap (λ (xs : List (List ℕ)). codes "ideal" ∷ begun.name ∷ codes "=" ∷ xs) b.spelled)
              ∙ sym (ap (λ (xs : List (List ℕ)). codes "ring" ∷ found.name ∷ codes "=" ∷ digits ∷ codes "," ∷ xs)
              (append_assoc (letters_spelling found.is_bare letters) (codes "," ∷ codes "dp" ∷ codes ";" ∷ []) (statements_spelling text)));
        },
      )

  pub is_form : (body : List (List ℕ)) (s : Scan) → All IsLetter letters × AreDistinct letters → statements_at letters more ≡ Some (s, body) → IsForm bytes digits letters s body
  is_form body s known statements = record { some = text_found body s known statements; each = of_text }
    where
      of_text : (t : ProblemText) → IsTextOf bytes t → IsFormOf digits letters s body t
      of_text t is =
          let read = text_body t is.grammatical in
          let same = same_ring t is in
          let e : counted body s ≡ counted (body_spelling t.generators t.denominator t.at) read.final = sym statements ∙ (λ i. statements_at (same.1 i) (same.2 i)) ∙ text_statements t is.grammatical read in
          let both = ap (λ (o : Option (Scan × List (List ℕ))). unwrap_or o (s, body)) e in
          let scans : s ≡ read.final = ap (λ (q : Scan × List (List ℕ)). q.0) both in
          record {
            digits_are = same.0;
            letters_are = same.1;
            body = ap (λ (q : Scan × List (List ℕ)). q.1) both;
            counts = record {
              place = ap (λ (z : Scan). z.place) scans ∙ read.counts.place;
              generators = ap (λ (z : Scan). z.generators) scans ∙ read.counts.generators;
              statements = ap (λ (z : Scan). z.statements) scans ∙ read.counts.statements;
              longest = ap (λ (z : Scan). z.longest) scans ∙ read.counts.longest;
              nesting = ap (λ (z : Scan). z.nesting) scans ∙ read.counts.nesting;
              digits = ap (λ (z : Scan). z.digits) scans ∙ read.counts.digits;
            };
          }

-- ---- what a function gave

pub gives_none : {X Y : Type 0} (view : X → Y) (o : Option X) (read : Option Y) → o ≡ None → Gives view o read → read ≡ None
gives_none view None read is h = h
gives_none view (Some x) read is h = absurd (cc)

pub gives_some : {X Y : Type 0} (view : X → Y) (o : Option X) (x : X) (read : Option Y) → o ≡ Some x → Gives view o read → read ≡ Some (view x)
gives_some view None x read is h = absurd (cc)
gives_some view (Some y) x read is h = h ∙ ap (λ (p : Option _). option_map view p) is

pub not_distinct : (letters read : List ℕ) (b : Bool) → read ≡ letters → b ≡ false → (All IsLetter read × AreDistinct read → b ≡ true) → All IsLetter letters × AreDistinct letters → ⊥
not_distinct letters read b same is holds known =
    let P : List ℕ → Type 0 = λ (l : List ℕ). All IsLetter l × AreDistinct l in
    let e : b ≡ true = holds (subst P (sym same) known) in absurd (cc)

pub are_distinct : (letters read : List ℕ) (b : Bool) → read ≡ letters → b ≡ true → (b ≡ true → All IsLetter read × AreDistinct read) → All IsLetter letters × AreDistinct letters
are_distinct letters read b same is holds = let P : List ℕ → Type 0 = λ (l : List ℕ). All IsLetter l × AreDistinct l in subst P same (holds is)
