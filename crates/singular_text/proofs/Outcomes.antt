-- What is answered to a text of the grammar.
use Rattle.std.proofs.Common.{◌≡◌, ℕ, ◌≤◌, List, [], ◌∷◌, ◌++◌, Bool, true, false, cond, ◌&&◌, ◌||◌, length, refl, sym, ap, ◌∙◌, subst, arith, append_assoc, append-nil, suc, Option, Some, None, Result, Ok, Err}
use Rattle.std.specs.Prelude.{All, codes, not, map, nat_lt, flat_map, option_map, unwrap_or, IfOk, MatchOption}
use Rattle.std.specs.Char.{is_ascii_alphabetic}
use Rattle.std.specs.List.{list_all, last_or, AllByRecursion}
use Rattle.std.proofs.lemmas.List.Elements.{All-from_recursion}
use Rattle.std.proofs.lemmas.List.Folds.{list_all-append}
use Rattle.std.proofs.lemmas.Bool.Decides.{nat_tests}
use Rattle.prime_field.specs.Primes.{characteristics}
use Rattle.prime_field.specs.Primes as primes
use Rattle.polys.specs.declared.term.Term.{Term}
use Rattle.polys.specs.Poly.{Polynomial, terms_of}
use Rattle.singular_text.specs.declared.faults.ReadFault.{ReadFault}
use Rattle.singular_text.specs.declared.faults.ReadFault.TheVariants.{Syntax, Characteristic, Limit, Memory}
use Rattle.singular_text.specs.declared.faults.Which.TheVariants.{Variables, Generators, Points, Nesting, Digits, Size}
use Rattle.problem.specs.declared.problem.Problem.{Problem}
use Rattle.problem_form.specs.declared.scanning.Scan.{Scan}
use Rattle.problem.specs.Letters.{is_among}
use Rattle.problem_form.specs.Words.{is_name}
use Rattle.problem_form.specs.Expressions.{Expression, nesting, most_digits}
use Rattle.poly_text.specs.Digits.{number}
use Rattle.singular_text.specs.Values.{value}
use Rattle.problem_form.specs.Reading.{begun_at}
use Rattle.problem.specs.Problem.{ProblemData, problem_data, IsFitProblem, IsFit}
use Rattle.problem_form.specs.ProblemText.{ProblemText, DenominatorText, IsGrammatical, IsTextOf, HasText, AreExpressions, IsDenominator, list_spelling, denominator_spelling, at_spelling, denominators, expressions, greatest}
use Rattle.singular_text.specs.Meanings.{Answers, denominator_value, has_small_values, first_fault, problem_of}
use Rattle.singular_text.specs.Evaluating.{IsReadAs, and_then, evaluate, new_frame}
use Rattle.singular_text.specs.Checks.{HasFitPolys, count_fault, or_fault, denominator_by, denominator_at, points_at, problem_with, problem_at, problem_by}
use Rattle.problem_form.specs.Forms.{body_spelling, Counts, IsFormOf}
use Rattle.singular_text.proofs.SmallValues.{where_small, poly, list_values}
use Rattle.problem.proofs.Places.{letters_alphabetic}

-- ---- values

then_small : {A B : Type 0} (r : Result A ReadFault) (h : Bool) (x : A) (next : A → Result B ReadFault) (s : Bool) (y : B) → r ≡ where_small h x → next x ≡ where_small s y
    → and_then r next ≡ where_small (h && s) y
then_small r true x next s y is gives = ap (λ q. and_then q next) is ∙ gives
then_small r false x next s y is gives = ap (λ q. and_then q next) is

abbrev pub polys_of : ℕ → List ℕ → List Expression → List Polynomial
polys_of p letters es = map (λ e. poly p (value p letters e)) es

abbrev pub denominator_of : ℕ → List ℕ → Option DenominatorText → Option Polynomial
denominator_of p letters None = None
denominator_of p letters (Some d) = Some (poly p (value p letters d.expression))

poly_behind : (ts behind : List (List ℕ)) (name : List ℕ) → begun_at (codes "poly") (codes "poly" ∷ name ∷ codes "=" ∷ behind) ≡ cond (is_name name) (Some behind) None
unfolding begun_at
poly_behind ts behind name = by_case (is_name name) refl
  where
    by_case : (b : Bool) → is_name name ≡ b → begun_at (codes "poly") (codes "poly" ∷ name ∷ codes "=" ∷ behind) ≡ cond b (Some behind) None
    by_case true is = rw is refl
    by_case false is = rw is refl

no_poly : (at : List (List Expression)) → begun_at (codes "poly") (at_spelling at) ≡ None
unfolding begun_at
no_poly [] = refl
no_poly (es ∷ at) = refl

module _ (p : ℕ) (letters : List ℕ) (are_letters : (x : ℕ) → is_among letters x ≡ true → is_ascii_alphabetic x ≡ true) where
  abbrev all_small : List Expression → Bool
  all_small es = list_all (has_small_values p letters) es

  list_is : (es : List Expression) (rest : List (List ℕ)) → AreExpressions letters es → evaluate p letters [] new_frame [] (list_spelling es ++ rest) ≡ where_small (all_small es) (polys_of p letters es, rest)
  list_is [] rest some = absurd (let h : 1 ≤ 0 = some.some in omega arith)
  list_is (e ∷ es) rest some = list_values p letters are_letters [] e es rest some.formed

  denominator_reads : (d : Option DenominatorText) (at : List (List Expression)) → IsDenominator letters d
      → denominator_at p letters (denominator_spelling d ++ at_spelling at) ≡ where_small (all_small (denominators d)) (denominator_of p letters d, at_spelling at)
  unfolding denominator_at
  denominator_reads None at named = ap (denominator_by p letters (at_spelling at)) (no_poly at)
  denominator_reads (Some d) at named =
      let behind : List (List ℕ) = list_spelling (d.expression ∷ []) ++ at_spelling at in
      ap (denominator_by p letters (denominator_spelling (Some d) ++ at_spelling at)) (poly_behind [] behind d.name ∙ ap (λ (b : Bool). cond b (Some behind) None) named.0)
      ∙ ap (λ (r : Result (List Polynomial × List (List ℕ)) ReadFault). and_then r (λ s. Ok (last_or None s.0, s.1))) (list_is (d.expression ∷ []) (at_spelling at) (record { some = omega arith; formed = (named.1, tt) }))
      ∙ by_case (all_small (d.expression ∷ []))
    where
      by_case : (b : Bool) → and_then {A = List Polynomial × List (List ℕ)} {B = Option Polynomial × List (List ℕ)} (where_small b (polys_of p letters (d.expression ∷ []), at_spelling at)) (λ s. Ok (last_or None s.0, s.1)) ≡ where_small b (denominator_of p letters (Some d), at_spelling at)
      by_case true = refl
      by_case false = refl

  points_read : (before : List (List Polynomial)) (at : List (List Expression)) → AllByRecursion (AreExpressions letters) at
      → points_at p letters before (length at) (at_spelling at) ≡ where_small (all_small (flat_map (λ es. es) at)) (before ++ map (polys_of p letters) at)
  unfolding points_at
  points_read before [] formed = ap (λ (xs : List (List Polynomial)). Ok xs) (sym (append-nil before))
  points_read before (es ∷ at) formed =
      then_small (evaluate p letters [] new_frame [] (list_spelling es ++ at_spelling at)) (all_small es) (polys_of p letters es, at_spelling at)
      (λ (r : List Polynomial × List (List ℕ)). points_at p letters (before ++ r.0 ∷ []) (length at) r.1) (all_small (flat_map (λ fs. fs) at)) (before ++ map (polys_of p letters) (es ∷ at))
      (list_is es (at_spelling at) formed.0)
      (points_read (before ++ polys_of p letters es ∷ []) at formed.1
      ∙ ap (λ (xs : List (List Polynomial)). where_small (all_small (flat_map (λ fs. fs) at)) xs) (append_assoc before (polys_of p letters es ∷ []) (map (polys_of p letters) at)))
      ∙ ap (λ (b : Bool). where_small b (before ++ map (polys_of p letters) (es ∷ at))) (sym (list_all-append (has_small_values p letters) es (flat_map (λ fs. fs) at)))

  problem_reads : (generators : List Expression) (d : Option DenominatorText) (at : List (List Expression)) → AreExpressions letters generators → IsDenominator letters d
      → AllByRecursion (AreExpressions letters) at
      → problem_at p letters (length at) (body_spelling generators d at)
      ≡ where_small (all_small (generators ++ (denominators d ++ flat_map (λ es. es) at)))
      (problem_with p letters (polys_of p letters generators) (denominator_of p letters d) (map (polys_of p letters) at))
  unfolding problem_at
  problem_reads generators d at some named formed =
      let problem : Problem = problem_with p letters (polys_of p letters generators) (denominator_of p letters d) (map (polys_of p letters) at) in
      let rest : List (List ℕ) = denominator_spelling d ++ at_spelling at in
      then_small (evaluate p letters [] new_frame [] (list_spelling generators ++ rest)) (all_small generators) (polys_of p letters generators, rest)
      (λ (g : List Polynomial × List (List ℕ)). and_then (denominator_at p letters g.1) (λ e. and_then (points_at p letters [] (length at) e.1) (λ a. Ok (problem_with p letters g.0 e.0 a))))
      (all_small (denominators d) && all_small (flat_map (λ es. es) at)) problem (list_is generators rest some)
      (then_small (denominator_at p letters rest) (all_small (denominators d)) (denominator_of p letters d, at_spelling at)
      (λ (e : Option Polynomial × List (List ℕ)). and_then (points_at p letters [] (length at) e.1) (λ a. Ok (problem_with p letters (polys_of p letters generators) e.0 a)))
      (all_small (flat_map (λ es. es) at)) problem (denominator_reads d at named)
      (last (all_small (flat_map (λ es. es) at)) (points_at p letters [] (length at) (at_spelling at)) (points_read [] at formed)))
      ∙ ap (λ (b : Bool). where_small b problem)
      (sym (list_all-append (has_small_values p letters) generators (denominators d ++ flat_map (λ es. es) at)
      ∙ ap (λ (b : Bool). all_small generators && b) (list_all-append (has_small_values p letters) (denominators d) (flat_map (λ es. es) at))))
    where
      last : (b : Bool) (r : Result (List (List Polynomial)) ReadFault) → r ≡ where_small b (map (polys_of p letters) at)
          → and_then r (λ a. Ok (problem_with p letters (polys_of p letters generators) (denominator_of p letters d) a))
          ≡ where_small b (problem_with p letters (polys_of p letters generators) (denominator_of p letters d) (map (polys_of p letters) at))
      last true r is = ap (λ q. and_then q (λ a. Ok (problem_with p letters (polys_of p letters generators) (denominator_of p letters d) a))) is
      last false r is = ap (λ q. and_then q (λ a. Ok (problem_with p letters (polys_of p letters generators) (denominator_of p letters d) a))) is

-- ---- the data

terms_are : (p : ℕ) (letters : List ℕ) (es : List Expression) → terms_of (polys_of p letters es) ≡ map (value p letters) es
terms_are p letters [] = refl
terms_are p letters (e ∷ es) = ap (λ (xs : List (List Term)). value p letters e ∷ xs) (terms_are p letters es)

all_terms_are : (p : ℕ) (letters : List ℕ) (at : List (List Expression)) → map terms_of (map (polys_of p letters) at) ≡ map (map (value p letters)) at
all_terms_are p letters [] = refl
all_terms_are p letters (es ∷ at) = λ i. terms_are p letters es i ∷ all_terms_are p letters at i

denominator_is : (p : ℕ) (letters : List ℕ) (d : Option DenominatorText) → option_map (λ (f : Polynomial). f.terms) (denominator_of p letters d) ≡ denominator_value p letters d
denominator_is p letters None = refl
denominator_is p letters (Some d) = refl

-- the problem that a text states, with its polynomials
abbrev pub stated : ProblemText → Problem
stated t =
    let p = number t.characteristic in
    problem_with p t.letters (polys_of p t.letters t.generators) (denominator_of p t.letters t.denominator) (map (polys_of p t.letters) t.at)

data_is : (t : ProblemText) → problem_data (stated t) ≡ problem_of t
data_is t =
    let p = number t.characteristic in
    λ i. record {
      prime = p;
      letters = t.letters;
      generators = terms_are p t.letters t.generators i;
      denominator = denominator_is p t.letters t.denominator i;
      at = all_terms_are p t.letters t.at i;
    }

-- ---- the checks

abbrev faults : Bool → Bool → Bool → Bool → Bool → Bool → Bool → Option ReadFault
faults a b c d e f g =
    cond a (Some Characteristic)
    (cond b (Some (Limit Variables))
    (cond c (Some (Limit Generators)) (cond d (Some (Limit Points)) (cond e (Some (Limit Nesting)) (cond f (Some (Limit Digits)) (cond (not g) (Some (Limit Size)) None))))))

abbrev counts_fault : Bool → Bool → Bool → Bool → Option ReadFault
counts_fault c d e f = cond c (Some (Limit Generators)) (cond d (Some (Limit Points)) (cond e (Some (Limit Nesting)) (cond f (Some (Limit Digits)) None)))

in_order : (a b c d e f g : Bool) (x : Problem)
    → cond a (Err Characteristic) (cond b (Err (Limit Variables)) (or_fault (counts_fault c d e f) (where_small g x))) ≡ or_fault (faults a b c d e f g) (Ok x)
in_order true b c d e f g x = refl
in_order false true c d e f g x = refl
in_order false false true d e f g x = refl
in_order false false false true e f g x = refl
in_order false false false false true f g x = refl
in_order false false false false false true g x = refl
in_order false false false false false false true x = refl
in_order false false false false false false false x = refl

no_syntax : (a b c d e f g : Bool) → faults a b c d e f g ≡ Some Syntax → ⊥
no_syntax true b c d e f g h = cc
no_syntax false true c d e f g h = cc
no_syntax false false true d e f g h = cc
no_syntax false false false true e f g h = cc
no_syntax false false false false true f g h = cc
no_syntax false false false false false true g h = cc
no_syntax false false false false false false true h = cc
no_syntax false false false false false false false h = cc

few : (a b c d e f g : Bool) → faults a b c d e f g ≡ None → c ≡ false
few true b c d e f g h = absurd (cc)
few false true c d e f g h = absurd (cc)
few false false true d e f g h = absurd (cc)
few false false false d e f g h = refl

pub never_syntax : (t : ProblemText) → first_fault t ≡ Some Syntax → ⊥
never_syntax t h =
    no_syntax (not (primes.is_among characteristics (number t.characteristic))) (nat_lt 6 (length t.letters)) (nat_lt 12 (length t.generators))
    (nat_lt 16 (length t.at) || nat_lt 12 (greatest (λ es. length es) t.at)) (nat_lt 100 (greatest nesting (expressions t))) (nat_lt 18 (greatest most_digits (expressions t)))
    (list_all (has_small_values (number t.characteristic) t.letters) (expressions t)) h

few_generators : (t : ProblemText) → first_fault t ≡ None → nat_lt 12 (length t.generators) ≡ false
few_generators t h =
    few (not (primes.is_among characteristics (number t.characteristic))) (nat_lt 6 (length t.letters)) (nat_lt 12 (length t.generators))
    (nat_lt 16 (length t.at) || nat_lt 12 (greatest (λ es. length es) t.at)) (nat_lt 100 (greatest nesting (expressions t))) (nat_lt 18 (greatest most_digits (expressions t)))
    (list_all (has_small_values (number t.characteristic) t.letters) (expressions t)) h

count_is : (t : ProblemText) (s : Scan) → Counts t.generators t.denominator t.at s
    → count_fault s
    ≡ counts_fault (nat_lt 12 (length t.generators)) (nat_lt 16 (length t.at) || nat_lt 12 (greatest (λ es. length es) t.at)) (nat_lt 100 (greatest nesting (expressions t)))
    (nat_lt 18 (greatest most_digits (expressions t)))
count_is t s counts =
    λ i.
    counts_fault (nat_lt 12 (counts.generators i)) (nat_lt 16 (counts.statements i) || nat_lt 12 (counts.longest i)) (nat_lt 100 (counts.nesting i)) (nat_lt 18 (counts.digits i))

own_outcome : (t : ProblemText) (s : Scan) → IsGrammatical t → Counts t.generators t.denominator t.at s
    → problem_by t.characteristic t.letters s (body_spelling t.generators t.denominator t.at) ≡ or_fault (first_fault t) (Ok (stated t))
unfolding problem_by
own_outcome t s g counts =
    let p = number t.characteristic in
    let ts : List (List ℕ) = body_spelling t.generators t.denominator t.at in
    (λ i.
    cond (not (primes.is_among characteristics p)) (Err Characteristic)
    (cond (nat_lt 6 (length t.letters)) (Err (Limit Variables)) (or_fault (count_is t s counts i) (problem_at p t.letters (counts.statements i) ts))))
    ∙ ap
    (λ (r : Result Problem ReadFault).
    cond (not (primes.is_among characteristics p)) (Err Characteristic)
    (cond (nat_lt 6 (length t.letters)) (Err (Limit Variables))
    (or_fault
    (counts_fault (nat_lt 12 (length t.generators)) (nat_lt 16 (length t.at) || nat_lt 12 (greatest (λ es. length es) t.at)) (nat_lt 100 (greatest nesting (expressions t)))
    (nat_lt 18 (greatest most_digits (expressions t))))
    r)))
    (problem_reads p t.letters (letters_alphabetic t.letters g.letters) t.generators t.denominator t.at g.generators g.denominator g.at)
    ∙ in_order (not (primes.is_among characteristics p)) (nat_lt 6 (length t.letters)) (nat_lt 12 (length t.generators))
    (nat_lt 16 (length t.at) || nat_lt 12 (greatest (λ es. length es) t.at)) (nat_lt 100 (greatest nesting (expressions t))) (nat_lt 18 (greatest most_digits (expressions t)))
    (list_all (has_small_values p t.letters) (expressions t)) (stated t)

outcome : (digits letters : List ℕ) (s : Scan) (ts : List (List ℕ)) (t : ProblemText) → IsGrammatical t → IsFormOf digits letters s ts t → problem_by digits letters s ts ≡ or_fault (first_fault t) (Ok (stated t))
outcome digits letters s ts t g form = (λ i. problem_by (form.digits_are i) (form.letters_are i) s (form.body i)) ∙ own_outcome t s g form.counts

-- ---- the answer

abbrev ok : Problem → Result Problem ReadFault
ok x = Ok x

abbrev problem_or : Problem → Result Problem ReadFault → Problem
problem_or d (Ok z) = z
problem_or d (Err e) = d

ok_same : (x y : Problem) → ok x ≡ ok y → x ≡ y
ok_same x y h = ap (problem_or x) h

faulty : (f : Option ReadFault) (x : Problem) (e : ReadFault) → or_fault f (Ok x) ≡ Err e → f ≡ Some e
faulty None x e h = absurd (cc)
faulty (Some k) x e h = let same : k ≡ e = cc in ap (λ (z : ReadFault). Some z) same

fine : (f : Option ReadFault) (x y : Problem) → or_fault f (Ok x) ≡ Ok y → (f ≡ None) × (x ≡ y)
fine None x y h = (refl, ok_same x y h)
fine (Some k) x y h = absurd (cc)

answered : (t : ProblemText) (result : Result Problem ReadFault) → IsReadAs (λ r. r) result (or_fault (first_fault t) (Ok (stated t))) → Answers result t
answered t (Ok problem) h = let f = fine (first_fault t) (stated t) problem h in (f.0, ap problem_data (sym f.1) ∙ data_is t)
answered t (Err Memory) h = tt
answered t (Err Syntax) h = faulty (first_fault t) (stated t) Syntax h
answered t (Err Characteristic) h = faulty (first_fault t) (stated t) Characteristic h
answered t (Err (Limit which)) h = faulty (first_fault t) (stated t) (Limit which) h

pub answers : (bytes digits letters : List ℕ) (s : Scan) (ts : List (List ℕ)) (result : Result Problem ReadFault) → ((t : ProblemText) → IsTextOf bytes t → IsFormOf digits letters s ts t)
    → IsReadAs (λ r. r) result (problem_by digits letters s ts) → (t : ProblemText) → IsTextOf bytes t → Answers result t
answers bytes digits letters s ts result each agrees t is =
    let P : Result Problem ReadFault → Type 0 = λ (r : Result Problem ReadFault). IsReadAs (λ q. q) result r in
    answered t result (subst P (outcome digits letters s ts t is.grammatical (each t is)) agrees)

pub no_fault_of_syntax : (bytes : List ℕ) (result : Result Problem ReadFault) → ((t : ProblemText) → IsTextOf bytes t → Answers result t) → result ≡ Err Syntax → HasText bytes → ⊥
no_fault_of_syntax bytes result answer is (t, text) =
    let P : Result Problem ReadFault → Type 0 = λ (r : Result Problem ReadFault). Answers r t in never_syntax t (subst P is (answer t text))

same_count : (p : ℕ) (letters : List ℕ) (fs : List Polynomial) (es : List Expression) → terms_of fs ≡ map (value p letters) es → length fs ≡ length es
same_count p letters fs es h = sym (count_terms fs) ∙ ap length h ∙ count_values es
  where
    count_terms : (gs : List Polynomial) → length (terms_of gs) ≡ length gs
    count_terms [] = refl
    count_terms (g ∷ gs) = ap (λ (n : ℕ). suc n) (count_terms gs)

    count_values : (xs : List Expression) → length (map (value p letters) xs) ≡ length xs
    count_values [] = refl
    count_values (x ∷ xs) = ap (λ (n : ℕ). suc n) (count_values xs)

each_list : (P : Polynomial → Type 0) (at : List (List Polynomial)) → AllByRecursion (AllByRecursion P) at → AllByRecursion (λ (fs : List Polynomial). All P fs) at
each_list P [] h = tt
each_list P (fs ∷ at) h = (All-from_recursion P fs h.0, each_list P at h.1)

pub fit_problem : (bytes : List ℕ) (result : Result Problem ReadFault) → HasText bytes → ((t : ProblemText) → IsTextOf bytes t → Answers result t) → IfOk result HasFitPolys → IfOk result IsFitProblem
fit_problem bytes (Err fault) text answer fit = tt
fit_problem bytes (Ok problem) (t, is) answer fit =
    let known : (first_fault t ≡ None) × (problem_data problem ≡ problem_of t) = answer t is in
    let count : length problem.generators ≡ length t.generators =
    same_count (number t.characteristic) t.letters problem.generators t.generators (ap (λ (d : ProblemData). d.generators) known.1) in
    let some : 1 ≤ length t.generators = is.grammatical.generators.some in
    let below : nat_lt 12 (length t.generators) ≡ false = few_generators t known.0 in
    let P : Polynomial → Type 0 = λ (f : Polynomial). IsFit problem.prime (length problem.letters) f in
    record {
      some = omega (arith, count, some);
      few = grind (arith, nat_tests);
      ready = record { generators = All-from_recursion P problem.generators fit.generators; denominator = fit.denominator };
      at = All-from_recursion (λ (fs : List Polynomial). All P fs) problem.at (each_list P problem.at fit.at);
    }

pub form_at : {X : Type 0} (o : Option X) (x : X) (A : Type 0) (P : X → Type 0) → o ≡ Some x → MatchOption o A P → P x
form_at None x A P is h = absurd (cc)
form_at {X} (Some y) x A P is h = subst P (ap (λ (p : Option X). unwrap_or p x) is) h
