-- What a text of the grammar states is a problem.
use Rattle.std.proofs.Common.{◌≡◌, ℕ, ◌<◌, ◌≤◌, ◌%◌, List, [], ◌∷◌, Bool, true, false, cond, length, refl, sym, subst, arith, Option, Some, None, Result, Ok, Err}
use Rattle.std.specs.Prelude.{map, nat_lt, not, IfSome, IfOk}
use Rattle.std.specs.List.{All, AllByRecursion}
use Rattle.std.proofs.lemmas.List.Elements.{All-nil, All-cons}
use Rattle.std.proofs.lemmas.Bool.Decides.{nat_tests}
use Rattle.prime_field.specs.Primes.{characteristics, IsPrime, CharacteristicsArePrime}
use Rattle.prime_field.specs.Primes as primes
use Rattle.polys.specs.declared.term.Term.{Term}
use Rattle.polys.specs.Ring.{AreClosed, PolynomialsAreClosed}
use Rattle.polys.specs.Terms.{IsPoly}
use Rattle.problem.specs.declared.problem.Problem.{Problem}
use Rattle.problem.specs.Problem.{IsProblem, problem_data}
use Rattle.problem.proofs.Places.{place_within}
use Rattle.singular_text.specs.declared.faults.ReadFault.{ReadFault}
use Rattle.problem_form.specs.Expressions.{Expression, Letter, Number, Parentheses, Run, Power, Product, Signed, Sum, IsFormed}
use Rattle.poly_text.specs.Digits.{number}
use Rattle.singular_text.specs.Values.{value, signed}
use Rattle.problem_form.specs.ProblemText.{ProblemText, DenominatorText, IsTextOf, HasText, IsGrammatical, IsDenominator, AreExpressions}
use Rattle.singular_text.specs.Meanings.{Answers, TextsStateProblems, denominator_value, first_fault}
use Rattle.poly_text.proofs.VariablePowers.{affine_variable}
use Rattle.singular_text.proofs.Runs.{affine_run, poly_term}
use Rattle.polys.proofs.Affine.{affine_unit}
use Rattle.singular_text.proofs.Fits.{run_bytes_of}

-- ---- values are polynomials in the letters' variables

module _ (p : ℕ) (letters : List ℕ) (positive : 0 < p) (closed : AreClosed p (length letters)) where
  signed_poly : (is_negative : Bool) (f : List Term) → IsPoly p (length letters) f → IsPoly p (length letters) (signed p is_negative f)
  signed_poly true f h = closed.difference [] f closed.none h
  signed_poly false f h = h

  value_poly : (e : Expression) → IsFormed letters e → IsPoly p (length letters) (value p letters e)
  value_poly (Letter x) formed = poly_term p (length letters) 1 _ positive (affine_variable (length letters) _ (place_within letters x formed))
  value_poly (Number digits) formed = poly_term p (length letters) (number digits % p) _ positive (affine_unit (length letters))
  value_poly (Parentheses inner) formed = value_poly inner formed
  value_poly (Run word) formed =
      poly_term p (length letters) _ _ positive (affine_run letters _ word (run_bytes_of letters word formed) (affine_unit (length letters)))
  value_poly (Power base exponent) formed = closed.power (value p letters base) (number exponent) (value_poly base formed.1)
  value_poly (Product term factor) formed =
      closed.product (value p letters term) (value p letters factor) (value_poly term formed.1) (value_poly factor formed.3)
  value_poly (Signed is_negative term) formed = signed_poly is_negative (value p letters term) (value_poly term formed.1)
  value_poly (Sum earlier true term) formed =
      closed.difference (value p letters earlier) (value p letters term) (value_poly earlier formed.0) (value_poly term formed.2)
  value_poly (Sum earlier false term) formed =
      closed.sum (value p letters earlier) (value p letters term) (value_poly earlier formed.0) (value_poly term formed.2)

  value_polys : (es : List Expression) → AllByRecursion (IsFormed letters) es → All (IsPoly p (length letters)) (map (value p letters) es)
  value_polys [] formed = All-nil (IsPoly p (length letters))
  value_polys (e ∷ es) formed =
      All-cons (IsPoly p (length letters)) (value p letters e) (map (value p letters) es) (value_poly e formed.0) (value_polys es formed.1)

  lists_poly : (at : List (List Expression)) → AllByRecursion (AreExpressions letters) at
      → All (All (IsPoly p (length letters))) (map (map (value p letters)) at)
  lists_poly [] formed = All-nil (All (IsPoly p (length letters)))
  lists_poly (es ∷ at) formed =
      All-cons (All (IsPoly p (length letters))) (map (value p letters) es) (map (map (value p letters)) at) (value_polys es formed.0.formed)
      (lists_poly at formed.1)

  denominator_poly : (d : Option DenominatorText) → IsDenominator letters d → IfSome (denominator_value p letters d) (IsPoly p (length letters))
  denominator_poly None formed = tt
  denominator_poly (Some d) formed = value_poly d.expression formed.1

-- ---- texts without a fault

-- the first two checks passed
first_checks : (a b : Bool) (fault other : ReadFault) (rest : Option ReadFault)
    → cond (not a) (Some fault) (cond b (Some other) rest) ≡ None → (a ≡ true) × (b ≡ false)
first_checks true true fault other rest h = absurd (cc)
first_checks true false fault other rest h = (refl, refl)
first_checks false b fault other rest h = absurd (cc)

checks_passed : (t : ProblemText) → first_fault t ≡ None
    → (primes.is_among characteristics (number t.characteristic) ≡ true) × (nat_lt 6 (length t.letters) ≡ false)
checks_passed t h = first_checks (primes.is_among characteristics (number t.characteristic)) (nat_lt 6 (length t.letters)) _ _ _ h

pub stated_problem : CharacteristicsArePrime → PolynomialsAreClosed → TextsStateProblems
stated_problem are_prime are_closed bytes t text sound = record {
  prime = prime;
  letters = record { some = grammatical.some; six = six; each = grammatical.letters; distinct = grammatical.distinct };
  generators = value_polys p t.letters positive closed t.generators grammatical.generators.formed;
  denominator = denominator_poly p t.letters positive closed t.denominator grammatical.denominator;
  at = lists_poly p t.letters positive closed t.at grammatical.at;
}
  where
    p : ℕ
    p = number t.characteristic

    grammatical : IsGrammatical t
    grammatical = text.grammatical

    prime : IsPrime p
    prime = are_prime p (checks_passed t sound).0

    positive : 0 < p
    positive = let two : 2 ≤ p = prime.0 in omega arith

    closed : AreClosed p (length t.letters)
    closed = are_closed p (length t.letters) (let two : 2 ≤ p = prime.0 in omega arith)

    six : length t.letters ≤ 6
    six = let few : nat_lt 6 (length t.letters) ≡ false = (checks_passed t sound).1 in grind (arith, nat_tests)

pub read_is_problem : (bytes : List ℕ) (result : Result Problem ReadFault) → TextsStateProblems → HasText bytes → ((t : ProblemText) → IsTextOf bytes t → Answers result t)
    → IfOk result (λ problem. IsProblem (problem_data problem))
read_is_problem bytes (Err fault) laws text answer = tt
read_is_problem bytes (Ok problem) laws (t, is) answer =
    let known = answer t is in subst IsProblem (sym known.1) (laws bytes t is known.0)
