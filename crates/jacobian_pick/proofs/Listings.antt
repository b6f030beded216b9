-- The three lists of candidates.
use Rattle.std.proofs.Common.{◌≡◌, ◌<◌, ℕ, List, [], ◌++◌, length, take, sym, ap, ◌∙◌, subst, arith}
use Rattle.std.specs.Prelude.{Result, Ok, Err, IfOk}
use Rattle.std.specs.List.{All}
use Rattle.std.proofs.lemmas.List.{take-map, map-append}
use Rattle.std.proofs.lemmas.List.Elements.{All-take, All-append, All-weaker}
use Rattle.prime_field.specs.Primes.{IsPrime}
use Rattle.polys.specs.declared.term.Term.{Term}
use Rattle.polys.specs.Curve.{IsOver}
use Rattle.polys.specs.Poly.{Polynomial, terms_of}
use Rattle.problem.specs.declared.problem.Problem.{Problem}
use Rattle.jacobian_pick.specs.Candidates.{AreKept, AreFirst, AreSecond, AreThird, AreCandidates, jacobian, over_pairs, over_others, number_sums, variable_sums}
use Rattle.jacobian_pick.specs.Lists.{polynomials, IsUpTo}
use Rattle.problem.specs.Problem.{HasFitPolynomials, problem_data}
use Rattle.jacobian_pick.proofs.Lows.{IsLow, jacobian_low, number_sums_low, variable_sums_low}
use Rattle.jacobian_pick.proofs.Memberships.{listed, up_to_raw, overs, lows, fits_up_to}

-- the polynomials with these terms, which are low
pub record IsRaw (problem : Problem) (D : ℕ) (xs : List (List Term)) (raw : List Polynomial) : Type 0 where
  pub is : raw ≡ polynomials problem.prime xs
  pub low : All (IsLow problem.prime (length problem.letters) D) xs

module _ (problem : Problem) (prime : IsPrime problem.prime) where
  two : 1 < problem.prime
  two = let h = prime.0 in omega arith

  pos : 0 < problem.prime
  pos = let h = prime.0 in omega arith

  pub raw_known : (D : ℕ) (xs : List (List Term)) (raw : List Polynomial) → IsRaw problem D xs raw → All (IsUpTo problem.prime (length problem.letters) D) raw × (terms_of raw ≡ xs)
  raw_known D xs raw r = up_to_raw problem.prime (length problem.letters) D xs raw r.is r.low

  pub over : (D : ℕ) (raw list : List Polynomial) → All (IsUpTo problem.prime (length problem.letters) D) raw → list ≡ raw → All (IsOver problem.prime (length problem.letters)) list
  over D raw list u e = subst (All (IsOver problem.prime (length problem.letters))) (sym e) (overs problem.prime (length problem.letters) D raw u)

  pub kept_of : {E : Type 0} (D : ℕ) (xs : List (List Term)) (raw list : List Polynomial) (r : Result (List Polynomial) E) → All (IsUpTo problem.prime (length problem.letters) D) raw → terms_of raw ≡ xs
      → list ≡ raw → IfOk r (λ ms. All (λ m. m.prime ≡ problem.prime) ms)
      → IfOk r (λ ms. AreKept problem.prime (length problem.letters) (terms_of problem.generators) (terms_of list) (terms_of ms))
      → IfOk r (λ ms. All (IsUpTo problem.prime (length problem.letters) D) ms × AreKept problem.prime (length problem.letters) (terms_of problem.generators) xs (terms_of ms))
  kept_of D xs raw list (Ok ms) u h e a k =
      listed problem.prime (length problem.letters) D (terms_of problem.generators) xs raw ms pos u h a
      (subst (λ w. AreKept problem.prime (length problem.letters) (terms_of problem.generators) (terms_of w) (terms_of ms)) e k)
  kept_of D xs raw list (Err x) u h e a k = a

  pub first_raw : (v : ℕ) (gens raw : List Polynomial) → HasFitPolynomials problem → v ≡ length problem.letters → gens ≡ problem.generators → raw ≡ polynomials problem.prime (jacobian problem.prime v (terms_of gens))
      → IsRaw problem 118 (jacobian problem.prime (length problem.letters) (terms_of problem.generators)) raw
  first_raw v gens raw ready e g r = record {
    is = r ∙ (λ i. polynomials problem.prime (jacobian problem.prime (e i) (terms_of (g i))));
    low = jacobian_low problem.prime (length problem.letters) two (terms_of problem.generators) (lows problem.prime (length problem.letters) 60 problem.generators (fits_up_to problem.prime (length problem.letters) problem.generators ready.generators));
  }

  six_lists : (first six : List Polynomial) → six ≡ take 6 first → terms_of six ≡ take 6 (terms_of first)
  six_lists first six e = ap terms_of e ∙ sym (take-map (λ (f : Polynomial). f.terms) 6 first)

  six_low : (first : List Polynomial) → All (IsUpTo problem.prime (length problem.letters) 118) first → All (IsLow problem.prime (length problem.letters) 118) (take 6 (terms_of first))
  six_low first a = All-take (IsLow problem.prime (length problem.letters) 118) 6 (terms_of first) (lows problem.prime (length problem.letters) 118 first a)

  pub six_up_to : (v : ℕ) (first six : List Polynomial) → v ≡ length problem.letters → six ≡ take 6 first → All (IsUpTo problem.prime (length problem.letters) 118) first → All (IsUpTo problem.prime v 118) six
  six_up_to v first six h e a =
      subst (λ (n : ℕ). All (IsUpTo problem.prime n 118) six) (sym h)
      (subst (All (IsUpTo problem.prime (length problem.letters) 118)) (sym e) (All-take (IsUpTo problem.prime (length problem.letters) 118) 6 first a))

  pub second_raw : (first six raw : List Polynomial) → All (IsUpTo problem.prime (length problem.letters) 118) first → six ≡ take 6 first
      → raw ≡ polynomials problem.prime (over_pairs (number_sums problem.prime) (terms_of six)) → IsRaw problem 119 (over_pairs (number_sums problem.prime) (take 6 (terms_of first))) raw
  second_raw first six raw a e r = record {
    is = r ∙ ap (λ w. polynomials problem.prime (over_pairs (number_sums problem.prime) w)) (six_lists first six e);
    low = number_sums_low problem.prime (length problem.letters) two (take 6 (terms_of first)) (six_low first a);
  }

  pub third_raw : (v : ℕ) (first six raw : List Polynomial) → v ≡ length problem.letters → All (IsUpTo problem.prime (length problem.letters) 118) first → six ≡ take 6 first
      → raw ≡ polynomials problem.prime (over_others (variable_sums problem.prime v) [] (terms_of six))
      → IsRaw problem 119 (over_others (variable_sums problem.prime (length problem.letters)) [] (take 6 (terms_of first))) raw
  third_raw v first six raw h a e r = record {
    is = r ∙ (λ i. polynomials problem.prime (over_others (variable_sums problem.prime (h i)) [] (six_lists first six e i)));
    low = variable_sums_low problem.prime (length problem.letters) two (take 6 (terms_of first)) (six_low first a);
  }

-- ---- the whole list

pub more_up_to : (p n : ℕ) (first : List Polynomial) → All (IsUpTo p n 118) first → All (IsUpTo p n 119) first
more_up_to p n first a = All-weaker (IsUpTo p n 118) (IsUpTo p n 119) (λ f h. record { over = h.over; low = (let l = h.low in omega arith) }) first a

pub all_up_to : (p n : ℕ) (first second third : List Polynomial) → All (IsUpTo p n 118) first → All (IsUpTo p n 119) second → All (IsUpTo p n 119) third
    → All (IsUpTo p n 119) (first ++ second ++ third)
all_up_to p n first second third a b c =
    All-append (IsUpTo p n 119) (first ++ second) third (All-append (IsUpTo p n 119) first second (more_up_to p n first a) b) c

pub all_candidates : (problem : Problem) (first second third : List Polynomial) → AreFirst (problem_data problem) (terms_of first) → AreSecond (problem_data problem) (terms_of first) (terms_of second)
    → AreThird (problem_data problem) (terms_of first) (terms_of third) → AreCandidates (problem_data problem) (terms_of (first ++ second ++ third))
all_candidates problem first second third a b c = record {
  first = terms_of first;
  second = terms_of second;
  third = terms_of third;
  are_first = a;
  are_second = b;
  are_third = c;
  joined = map-append (λ f. f.terms) (first ++ second) third ∙ ap (λ w. w ++ terms_of third) (map-append (λ f. f.terms) first second);
}
