-- The statement of a ring is read as it is spelled.
use Rattle.std.proofs.Common.{◌≡◌, ℕ, List, [], ◌∷◌, ◌++◌, Bool, true, false, cond, ◌==◌, ◌&&◌, refl, sym, ap, ◌∙◌, Option, Some, None, append_assoc}
use Rattle.std.specs.Prelude.{codes, option_and_then, unwrap_or}
use Rattle.std.specs.List.{list_all}
use Rattle.std.specs.Char.{is_ascii_alphabetic}
use Rattle.problem.proofs.Places.{same_number}
use Rattle.problem_form.specs.Words.{same_token, is_name, is_number}
use Rattle.problem_form.specs.ProblemText.{closed_letters, letters_spelling}
use Rattle.problem_form.specs.Reading.{after_token, after_name, number_at, begun_at, letter_of, listed_at, single_at, letters_by, letters_at, ring_start, ring_end, ring_at}

-- equal tokens are the same
pub same_is : (a b : List ℕ) → same_token a b ≡ true → a ≡ b
same_is [] [] h = refl
same_is [] (y ∷ b) h = absurd (cc)
same_is (x ∷ a) [] h = absurd (cc)
same_is (x ∷ a) (y ∷ b) h = by_case (x == y) refl h (same_is a b)
  where
    by_case : (t : Bool) → (x == y) ≡ t → (t && same_token a b) ≡ true → (same_token a b ≡ true → a ≡ b) → x ∷ a ≡ y ∷ b
    by_case true e rest more = λ i. same_number x y e i ∷ more rest i
    by_case false e rest more = absurd (cc)

first_true : (a b : Bool) → (a && b) ≡ true → a ≡ true
first_true true b h = refl
first_true false b h = absurd (cc)

second_true : (a b : Bool) → (a && b) ≡ true → b ≡ true
second_true true b h = h
second_true false b h = absurd (cc)

abbrev found_letters : List (List ℕ) → List ℕ → Option (List ℕ × List (List ℕ))
found_letters more xs = Some (xs, more)

-- ---- what is spelled is read

pub begun_is : (name : List ℕ) (more : List (List ℕ)) → is_name name ≡ true → begun_at (codes "ring") (codes "ring" ∷ name ∷ codes "=" ∷ more) ≡ Some more
unfolding begun_at
begun_is name more named = rw named refl

pub ideal_is : (name : List ℕ) (more : List (List ℕ)) → is_name name ≡ true → begun_at (codes "ideal") (codes "ideal" ∷ name ∷ codes "=" ∷ more) ≡ Some more
unfolding begun_at
ideal_is name more named = rw named refl

start_is : (name digits : List ℕ) (more : List (List ℕ)) → is_name name ≡ true → is_number digits ≡ true
    → ring_start (codes "ring" ∷ name ∷ codes "=" ∷ digits ∷ codes "," ∷ more) ≡ Some (digits, more)
unfolding ring_start
start_is name digits more named number = rw (begun_is name (digits ∷ codes "," ∷ more) named) (rw number refl)

end_is : (more : List (List ℕ)) → ring_end (codes "," ∷ codes "dp" ∷ codes ";" ∷ more) ≡ Some more
unfolding ring_end
end_is more = refl

listed_is : (before : List ℕ) (x : ℕ) (letters : List ℕ) (more : List (List ℕ)) → list_all is_ascii_alphabetic (x ∷ letters) ≡ true
    → listed_at before (closed_letters (x ∷ letters) ++ more) ≡ Some (before ++ (x ∷ letters), more)
unfolding listed_at
listed_is before x [] more all = rw (first_true (is_ascii_alphabetic x) true all) refl
listed_is before x (y ∷ letters) more all =
    let first : is_ascii_alphabetic x ≡ true = first_true (is_ascii_alphabetic x) (list_all is_ascii_alphabetic (y ∷ letters)) all in
    let later : list_all is_ascii_alphabetic (y ∷ letters) ≡ true = second_true (is_ascii_alphabetic x) (list_all is_ascii_alphabetic (y ∷ letters)) all in
    ap (λ (b : Bool). option_and_then (λ (z : ℕ). listed_at (before ++ (z ∷ [])) (closed_letters (y ∷ letters) ++ more)) (cond b (Some x) None)) first
    ∙ listed_is (before ++ (x ∷ [])) y letters more later
    ∙ ap (found_letters more) (append_assoc before (x ∷ []) (y ∷ letters))

no_open : (x : ℕ) → is_ascii_alphabetic x ≡ true → (x == 40) ≡ false
no_open x alphabetic = by_case (x == 40) refl
  where
    by_case : (t : Bool) → (x == 40) ≡ t → t ≡ false
    by_case false is = refl
    by_case true is = let e : is_ascii_alphabetic x ≡ false = ap is_ascii_alphabetic (same_number x 40 is) in absurd (cc)

pub letters_are : (is_bare : Bool) (x : ℕ) (letters : List ℕ) (more : List (List ℕ)) → list_all is_ascii_alphabetic (x ∷ letters) ≡ true → (is_bare ≡ true → letters ≡ [])
    → letters_at (letters_spelling is_bare (x ∷ letters) ++ more) ≡ Some (x ∷ letters, more)
unfolding letters_at
letters_are false x letters more all bare = listed_is [] x letters more all
letters_are true x (y ∷ letters) more all bare = absurd (let e : y ∷ letters ≡ [] = bare refl in cc)
letters_are true x [] more all bare =
    let first : is_ascii_alphabetic x ≡ true = first_true (is_ascii_alphabetic x) true all in
    let other : (x == 40) ≡ false = no_open x first in
    rw (other, first) refl

-- the whole statement
pub ring_is : (name digits : List ℕ) (is_bare : Bool) (x : ℕ) (letters : List ℕ) (more : List (List ℕ)) → is_name name ≡ true → is_number digits ≡ true
    → list_all is_ascii_alphabetic (x ∷ letters) ≡ true → (is_bare ≡ true → letters ≡ [])
    → ring_at (codes "ring" ∷ name ∷ codes "=" ∷ digits ∷ codes "," ∷ (letters_spelling is_bare (x ∷ letters) ++ (codes "," ∷ codes "dp" ∷ codes ";" ∷ more)))
    ≡ Some (digits, x ∷ letters, more)
unfolding ring_at
ring_is name digits is_bare x letters more named number all bare =
    rw (start_is name digits (letters_spelling is_bare (x ∷ letters) ++ (codes "," ∷ codes "dp" ∷ codes ";" ∷ more)) named number)
    (rw (letters_are is_bare x letters (codes "," ∷ codes "dp" ∷ codes ";" ∷ more) all bare) (rw (end_is more) refl))

-- ---- what is read is spelled so

pub bind_some : {A B : Type 0} (o : Option A) (f : A → Option B) (y : B) → option_and_then f o ≡ Some y → (x : A) × (o ≡ Some x) × (f x ≡ Some y)
bind_some None f y h = absurd (cc)
bind_some (Some x) f y h = (x, refl, h)

some_same : {A : Type 0} (x y : A) → Some x ≡ Some y → x ≡ y
some_same x y h = ap (λ o. unwrap_or o x) h

if_some : {A : Type 0} (b : Bool) (x y : A) → cond b (Some x) None ≡ Some y → (b ≡ true) × (x ≡ y)
if_some true x y h = (refl, some_same x y h)
if_some false x y h = absurd (cc)

after_some : (word : List ℕ) (ts more : List (List ℕ)) → after_token word ts ≡ Some more → ts ≡ word ∷ more
after_some word [] more h = absurd (cc)
after_some word (t ∷ ts) more h =
    let found : (same_token t word ≡ true) × (ts ≡ more) = if_some (same_token t word) ts more h in
    λ i. same_is t word found.0 i ∷ found.1 i

record Named (ts more : List (List ℕ)) : Type 0 where
  name : List ℕ
  named : is_name name ≡ true
  is : ts ≡ name ∷ more

name_some : (ts more : List (List ℕ)) → after_name ts ≡ Some more → Named ts more
name_some [] more h = absurd (cc)
name_some (t ∷ ts) more h =
    let found : (is_name t ≡ true) × (ts ≡ more) = if_some (is_name t) ts more h in
    record { name = t; named = found.0; is = ap (λ (xs : List (List ℕ)). t ∷ xs) found.1 }

number_some : (ts : List (List ℕ)) (found : List ℕ × List (List ℕ)) → number_at ts ≡ Some found → (ts ≡ found.0 ∷ found.1) × (is_number found.0 ≡ true)
number_some [] found h = absurd (cc)
number_some (t ∷ ts) found h = by_case (is_number t) refl h
  where
    by_case : (b : Bool) → is_number t ≡ b → cond b (Some (t, ts)) None ≡ Some found → (t ∷ ts ≡ found.0 ∷ found.1) × (is_number found.0 ≡ true)
    by_case false is e = absurd (cc)
    by_case true is e =
        let same = ap (λ (o : Option (List ℕ × List (List ℕ))). unwrap_or o found) e in
        ((λ i. (same i).0 ∷ (same i).1), ap is_number (sym (ap (λ (q : List ℕ × List (List ℕ)). q.0) same)) ∙ is)

pub record Begun (word : List ℕ) (ts more : List (List ℕ)) : Type 0 where
  pub name : List ℕ
  pub named : is_name name ≡ true
  pub is : ts ≡ word ∷ name ∷ codes "=" ∷ more

pub begun_some : (word : List ℕ) (ts more : List (List ℕ)) → begun_at word ts ≡ Some more → Begun word ts more
unfolding begun_at
begun_some word ts more h =
    let first = bind_some (after_token word ts) (λ (named : List (List ℕ)). option_and_then (λ (equals : List (List ℕ)). after_token (codes "=") equals) (after_name named)) more h in
    let second = bind_some (after_name first.0) (λ (equals : List (List ℕ)). after_token (codes "=") equals) more first.2 in
    let named = name_some first.0 second.0 second.1 in
    record {
      name = named.name;
      named = named.named;
      is = after_some word ts first.0 first.1 ∙ ap (λ (xs : List (List ℕ)). word ∷ xs) (named.is ∙ ap (λ (xs : List (List ℕ)). named.name ∷ xs) (after_some (codes "=") second.0 more second.2));
    }

pub end_some : (ts more : List (List ℕ)) → ring_end ts ≡ Some more → ts ≡ codes "," ∷ codes "dp" ∷ codes ";" ∷ more
unfolding ring_end
end_some ts more h =
    let first = bind_some (after_token (codes ",") ts) (λ (order : List (List ℕ)). option_and_then (λ (end : List (List ℕ)). after_token (codes ";") end) (after_token (codes "dp") order)) more h in
    let second = bind_some (after_token (codes "dp") first.0) (λ (end : List (List ℕ)). after_token (codes ";") end) more first.2 in
    after_some (codes ",") ts first.0 first.1
    ∙ ap (λ (xs : List (List ℕ)). codes "," ∷ xs)
    (after_some (codes "dp") first.0 second.0 second.1 ∙ ap (λ (xs : List (List ℕ)). codes "dp" ∷ xs) (after_some (codes ";") second.0 more second.2))

letter_some : (t : List ℕ) (x : ℕ) → letter_of t ≡ Some x → (t ≡ x ∷ []) × (is_ascii_alphabetic x ≡ true)
letter_some [] x h = absurd (cc)
letter_some (b ∷ []) x h =
    let found : (is_ascii_alphabetic b ≡ true) × (b ≡ x) = if_some (is_ascii_alphabetic b) b x h in
    (ap (λ (y : ℕ). y ∷ []) found.1, ap is_ascii_alphabetic (sym found.1) ∙ found.0)
letter_some (b ∷ c ∷ t) x h = absurd (cc)

-- a list of letters stands in front
record Closed (before : List ℕ) (ts : List (List ℕ)) (letters : List ℕ) (more : List (List ℕ)) : Type 0 where
  first : ℕ
  others : List ℕ
  letters_are : letters ≡ before ++ (first ∷ others)
  spelled : ts ≡ closed_letters (first ∷ others) ++ more
  all : list_all is_ascii_alphabetic (first ∷ others) ≡ true

both_true : (a b : Bool) → a ≡ true → b ≡ true → (a && b) ≡ true
both_true a b first second = λ i. first i && second i

closed_more : (before : List ℕ) (x : ℕ) (ts : List (List ℕ)) (letters : List ℕ) (more : List (List ℕ)) → is_ascii_alphabetic x ≡ true → Closed (before ++ (x ∷ [])) ts letters more
    → Closed before ((x ∷ []) ∷ codes "," ∷ ts) letters more
closed_more before x ts letters more alphabetic c = record {
  first = x;
  others = c.first ∷ c.others;
  letters_are = c.letters_are ∙ append_assoc before (x ∷ []) (c.first ∷ c.others);
  spelled = ap (λ (xs : List (List ℕ)). (x ∷ []) ∷ codes "," ∷ xs) c.spelled;
  all = both_true (is_ascii_alphabetic x) (list_all is_ascii_alphabetic (c.first ∷ c.others)) alphabetic c.all;
}

closed_at : (before : List ℕ) (ts now : List (List ℕ)) (letters : List ℕ) (more : List (List ℕ)) → now ≡ ts → Closed before now letters more → Closed before ts letters more
closed_at before ts now letters more is c = record { first = c.first; others = c.others; letters_are = c.letters_are; spelled = sym is ∙ c.spelled; all = c.all }

listed_next : (before t mark : List ℕ) (ts : List (List ℕ))
    → listed_at before (t ∷ mark ∷ ts)
    ≡ option_and_then (λ x. cond (same_token mark (codes ")")) (Some (before ++ (x ∷ []), ts)) (cond (same_token mark (codes ",")) (listed_at (before ++ (x ∷ [])) ts) None)) (letter_of t)
unfolding listed_at
listed_next before t mark ts = refl

listed_none : (before : List ℕ) → listed_at before [] ≡ None
unfolding listed_at
listed_none before = refl

listed_one : (before t : List ℕ) → listed_at before (t ∷ []) ≡ None
unfolding listed_at
listed_one before t = refl

abbrev pair : List ℕ → List (List ℕ) → Option (List ℕ × List (List ℕ))
pair letters more = Some (letters, more)

listed_some : (before : List ℕ) (ts : List (List ℕ)) (letters : List ℕ) (more : List (List ℕ)) → listed_at before ts ≡ pair letters more → Closed before ts letters more
listed_some before [] letters more h = absurd (let e : None ≡ pair letters more = sym (listed_none before) ∙ h in cc)
listed_some before (t ∷ []) letters more h = absurd (let e : None ≡ pair letters more = sym (listed_one before t) ∙ h in cc)
listed_some before (t ∷ mark ∷ ts) letters more h = by_letter (letter_of t) refl (sym (listed_next before t mark ts) ∙ h) (λ b. listed_some b ts letters more)
  where
    by_mark : (x : ℕ) (a b : Bool) → letter_of t ≡ Some x → same_token mark (codes ")") ≡ a → same_token mark (codes ",") ≡ b
        → cond a (Some (before ++ (x ∷ []), ts)) (cond b (listed_at (before ++ (x ∷ [])) ts) None) ≡ pair letters more
        → ((b : List ℕ) → listed_at b ts ≡ pair letters more → Closed b ts letters more) → Closed before (t ∷ mark ∷ ts) letters more
    by_mark x true b is close comma e later =
        let found : (t ≡ x ∷ []) × (is_ascii_alphabetic x ≡ true) = letter_some t x is in
        let same = ap (λ (o : Option (List ℕ × List (List ℕ))). unwrap_or o (letters, more)) e in
        record {
          first = x;
          others = [];
          letters_are = sym (ap (λ (q : List ℕ × List (List ℕ)). q.0) same);
          spelled = λ i. found.0 i ∷ same_is mark (codes ")") close i ∷ (same i).1;
          all = both_true (is_ascii_alphabetic x) true found.1 refl;
        }
    by_mark x false true is close comma e later =
        let found : (t ≡ x ∷ []) × (is_ascii_alphabetic x ≡ true) = letter_some t x is in
        closed_at before (t ∷ mark ∷ ts) ((x ∷ []) ∷ codes "," ∷ ts) letters more (sym (λ i. found.0 i ∷ same_is mark (codes ",") comma i ∷ ts))
        (closed_more before x ts letters more found.1 (later (before ++ (x ∷ [])) e))
    by_mark x false false is close comma e later = absurd (cc)

    by_letter : (o : Option ℕ) → letter_of t ≡ o
        → option_and_then (λ x. cond (same_token mark (codes ")")) (Some (before ++ (x ∷ []), ts)) (cond (same_token mark (codes ",")) (listed_at (before ++ (x ∷ [])) ts) None)) o ≡ pair letters more
        → ((b : List ℕ) → listed_at b ts ≡ pair letters more → Closed b ts letters more) → Closed before (t ∷ mark ∷ ts) letters more
    by_letter None is e later = absurd (cc)
    by_letter (Some x) is e later = by_mark x (same_token mark (codes ")")) (same_token mark (codes ",")) is refl refl e later

-- the statement of a ring stands in front
pub record RingFound (ts : List (List ℕ)) (digits letters : List ℕ) (more : List (List ℕ)) : Type 0 where
  pub name : List ℕ
  pub is_bare : Bool
  pub first : ℕ
  pub others : List ℕ
  pub letters_are : letters ≡ first ∷ others
  pub named : is_name name ≡ true
  pub number : is_number digits ≡ true
  pub all : list_all is_ascii_alphabetic (first ∷ others) ≡ true
  pub bare : is_bare ≡ true → others ≡ []
  pub spelled : ts ≡ codes "ring" ∷ name ∷ codes "=" ∷ digits ∷ codes "," ∷ (letters_spelling is_bare (first ∷ others) ++ (codes "," ∷ codes "dp" ∷ codes ";" ∷ more))

record LettersFound (ts : List (List ℕ)) (letters : List ℕ) (more : List (List ℕ)) : Type 0 where
  is_bare : Bool
  first : ℕ
  others : List ℕ
  letters_are : letters ≡ first ∷ others
  all : list_all is_ascii_alphabetic (first ∷ others) ≡ true
  bare : is_bare ≡ true → others ≡ []
  spelled : ts ≡ letters_spelling is_bare (first ∷ others) ++ more

abbrev alone : ℕ × List (List ℕ) → Option (List ℕ × List (List ℕ))
alone q = Some (q.0 ∷ [], q.1)

abbrev beside : List (List ℕ) → ℕ → Option (ℕ × List (List ℕ))
beside xs x = Some (x, xs)

letters_some : (ts : List (List ℕ)) (letters : List ℕ) (more : List (List ℕ)) → letters_at ts ≡ pair letters more → LettersFound ts letters more
unfolding letters_at
letters_some ts letters more h = by_open (after_token (codes "(") ts) refl h
  where
    single : (xs : List (List ℕ)) → single_at xs ≡ pair letters more → LettersFound xs letters more
    single [] e = absurd (cc)
    single (t ∷ xs) e = by_letter (letter_of t) refl e
      where
        by_letter : (o : Option ℕ) → letter_of t ≡ o → option_and_then alone (option_and_then (beside xs) o) ≡ pair letters more → LettersFound (t ∷ xs) letters more
        by_letter None is g = absurd (cc)
        by_letter (Some x) is g =
            let found : (t ≡ x ∷ []) × (is_ascii_alphabetic x ≡ true) = letter_some t x is in
            let same = ap (λ (o : Option (List ℕ × List (List ℕ))). unwrap_or o (letters, more)) g in
            record {
              is_bare = true;
              first = x;
              others = [];
              letters_are = sym (ap (λ (q : List ℕ × List (List ℕ)). q.0) same);
              all = both_true (is_ascii_alphabetic x) true found.1 refl;
              bare = λ b. refl;
              spelled = λ i. found.0 i ∷ (same i).1;
            }

    by_open : (o : Option (List (List ℕ))) → after_token (codes "(") ts ≡ o → letters_by ts o ≡ pair letters more → LettersFound ts letters more
    by_open None is e = single ts e
    by_open (Some later) is e =
        let found : Closed [] later letters more = listed_some [] later letters more e in
        record {
          is_bare = false;
          first = found.first;
          others = found.others;
          letters_are = found.letters_are;
          all = found.all;
          bare = λ b. absurd (cc);
          spelled = after_some (codes "(") ts later is ∙ ap (λ (xs : List (List ℕ)). codes "(" ∷ xs) found.spelled;
        }

record StartFound (ts : List (List ℕ)) (digits : List ℕ) (more : List (List ℕ)) : Type 0 where
  name : List ℕ
  named : is_name name ≡ true
  number : is_number digits ≡ true
  spelled : ts ≡ codes "ring" ∷ name ∷ codes "=" ∷ digits ∷ codes "," ∷ more

start_some : (ts : List (List ℕ)) (found : List ℕ × List (List ℕ)) → ring_start ts ≡ Some found → StartFound ts found.0 found.1
unfolding ring_start
start_some ts found h =
    let first =
    bind_some (begun_at (codes "ring") ts)
    (λ (number : List (List ℕ)). option_and_then (λ (n : List ℕ × List (List ℕ)). option_and_then (λ (later : List (List ℕ)). pair n.0 later) (after_token (codes ",") n.1)) (number_at number)) found h in
    let second =
    bind_some (number_at first.0) (λ (n : List ℕ × List (List ℕ)). option_and_then (λ (later : List (List ℕ)). pair n.0 later) (after_token (codes ",") n.1)) found first.2 in
    let third = bind_some (after_token (codes ",") second.0.1) (λ (later : List (List ℕ)). pair second.0.0 later) found second.2 in
    let same = ap (λ (o : Option (List ℕ × List (List ℕ))). unwrap_or o found) third.2 in
    let begun = begun_some (codes "ring") ts first.0 first.1 in
    let number = number_some first.0 second.0 second.1 in
    record {
      name = begun.name;
      named = begun.named;
      number = ap is_number (sym (ap (λ (q : List ℕ × List (List ℕ)). q.0) same)) ∙ number.1;
      spelled =
          begun.is ∙ ap (λ (xs : List (List ℕ)). codes "ring" ∷ begun.name ∷ codes "=" ∷ xs) (number.0 ∙ ap (λ (xs : List (List ℕ)). second.0.0 ∷ xs) (after_some (codes ",") second.0.1 third.0 third.1))
          ∙ (λ i. codes "ring" ∷ begun.name ∷ codes "=" ∷ (same i).0 ∷ codes "," ∷ (same i).1);
    }

abbrev Triple : Type 0
Triple = List ℕ × List ℕ × List (List ℕ)

abbrev with_end : List ℕ → List ℕ → List (List ℕ) → Option Triple
with_end d l m = Some (d, l, m)

abbrev with_letters : List ℕ → List ℕ × List (List ℕ) → Option Triple
with_letters d named = option_and_then (λ (m : List (List ℕ)). with_end d named.0 m) (ring_end named.1)

abbrev with_start : List ℕ × List (List ℕ) → Option Triple
with_start start = option_and_then (with_letters start.0) (letters_at start.1)

ring_parts : (ts : List (List ℕ)) → ring_at ts ≡ option_and_then with_start (ring_start ts)
unfolding ring_at
ring_parts ts = refl

pub ring_some : (ts : List (List ℕ)) (digits letters : List ℕ) (more : List (List ℕ)) → ring_at ts ≡ with_end digits letters more → RingFound ts digits letters more
ring_some ts digits letters more h =
    let first = bind_some (ring_start ts) with_start (digits, letters, more) (sym (ring_parts ts) ∙ h) in
    let second = bind_some (letters_at first.0.1) (with_letters first.0.0) (digits, letters, more) first.2 in
    let third = bind_some (ring_end second.0.1) (λ (m : List (List ℕ)). with_end first.0.0 second.0.0 m) (digits, letters, more) second.2 in
    let same = ap (λ (o : Option Triple). unwrap_or o (digits, letters, more)) third.2 in
    let start : StartFound ts first.0.0 first.0.1 = start_some ts first.0 first.1 in
    let named : LettersFound first.0.1 second.0.0 second.0.1 = letters_some first.0.1 second.0.0 second.0.1 second.1 in
    record {
      name = start.name;
      is_bare = named.is_bare;
      first = named.first;
      others = named.others;
      letters_are = sym (ap (λ (q : Triple). q.1) same) ∙ named.letters_are;
      named = start.named;
      number = ap is_number (sym (ap (λ (q : Triple). q.0) same)) ∙ start.number;
      all = named.all;
      bare = named.bare;
      spelled =
          start.spelled
          ∙ ap (λ (xs : List (List ℕ)). codes "ring" ∷ start.name ∷ codes "=" ∷ first.0.0 ∷ codes "," ∷ xs)
          (named.spelled ∙ ap (λ (xs : List (List ℕ)). letters_spelling named.is_bare (named.first ∷ named.others) ++ xs) (end_some second.0.1 third.0 third.1))
          ∙ (λ i.
          codes "ring" ∷ start.name ∷ codes "=" ∷ (same i).0 ∷ codes ","
          ∷ (letters_spelling named.is_bare (named.first ∷ named.others) ++ (codes "," ∷ codes "dp" ∷ codes ";" ∷ (same i).2)));
    }
