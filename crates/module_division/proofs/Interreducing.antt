-- The reduction of vectors by one another, in its three steps.
use Rattle.std.proofs.Common.{◌≡◌, ℕ, ◌<◌, List, [], length, get_or, sym, ◌∙◌, subst, arith}
use Rattle.std.specs.List.{All, Contains}
use Rattle.std.specs.List.Sorted.{IsPermutation}
use Rattle.std.proofs.lemmas.List.{get_or-map}
use Rattle.std.proofs.lemmas.List.Elements.{All-contains, Contains-get_or}
use Rattle.std.proofs.lemmas.List.Sorted.{Contains-permutation, IsPermutation-map, IsPermutation-sym}
use Rattle.monomials.specs.Mono.{Monomial, Divides}
use Rattle.polys.specs.Poly.{Polynomial, terms_of}
use Rattle.graded_modules.specs.Vector.{lead_mono}
use Rattle.graded_modules.specs.Module.{IsLeadMultiple}
use Rattle.module_division.specs.Vectors.{member}
use Rattle.module_division.specs.Division.{IsDivisor}
use Rattle.module_division.specs.Reduction.{IsTailReduced, IsCore, IsInterreduced}
use Rattle.module_division.proofs.Lists.{count_lists}

pub found_multiple : (xs fs : List Polynomial) (k : ℕ) (m w : Monomial) → xs ≡ fs → m ≡ w → k < length xs → ((d : Polynomial) → Divides (lead_mono (get_or xs k d).terms) m)
    → IsLeadMultiple (terms_of fs) w
found_multiple xs fs k m w e q h d =
    let n = count_lists xs in
    let D : Polynomial = record { prime = 0; terms = [] } in
    let at : get_or (terms_of xs) k [] ≡ (get_or xs k D).terms = get_or-map (λ (f : Polynomial). f.terms) xs k D [] h in
    subst (λ l. IsLeadMultiple (terms_of l) w) e
    (subst (IsLeadMultiple (terms_of xs)) q (get_or (terms_of xs) k [], Contains-get_or (terms_of xs) k [] (omega arith), subst (λ b. Divides (lead_mono b) m) (sym at) (d D)))

pub kept_divisors : (p : ℕ) (fs sorted kept : List Polynomial) → All (IsDivisor p) fs → IsPermutation fs sorted → ((f : Polynomial) → Contains kept f → Contains sorted f) → All (IsDivisor p) kept
kept_divisors p fs sorted kept all perm same k d h =
    All-contains (IsDivisor p) fs (get_or kept k d) all
    (Contains-permutation sorted fs (get_or kept k d) (IsPermutation-sym fs sorted perm) (same (get_or kept k d) (Contains-get_or kept k d h)))

pub interreduction : (p : ℕ) (fs sorted kept qs : List Polynomial) → IsPermutation fs sorted → IsCore (terms_of sorted) (terms_of kept)
    → length qs ≡ length kept → All (λ f. f.prime ≡ p) qs
    → ((k : ℕ) (d e : Polynomial) → k < length kept → IsTailReduced p (terms_of kept) (get_or kept k d).terms (get_or qs k e).terms) → IsInterreduced p (terms_of fs) qs
interreduction p fs sorted kept qs perm core count primes tails =
    let lists = IsPermutation-map (λ (f : Polynomial). f.terms) fs sorted perm in
    record {
      kept = terms_of kept;
      core = record {
        inside = λ b c. Contains-permutation (terms_of sorted) (terms_of fs) b (IsPermutation-sym (terms_of fs) (terms_of sorted) lists) (core.inside b c);
        covers = λ b c. core.covers b (Contains-permutation (terms_of fs) (terms_of sorted) b lists c);
        rising = core.rising;
      };
      as_many = count ∙ sym (count_lists kept);
      primes = primes;
      tails = λ k h.
          let D : Polynomial = record { prime = 0; terms = [] } in
          let n = count_lists kept in
          let inside : k < length kept = omega arith in
          subst (IsTailReduced p (terms_of kept) (member (terms_of kept) k)) (sym (get_or-map (λ (f : Polynomial). f.terms) qs k D [] (omega arith)))
          (subst (λ b. IsTailReduced p (terms_of kept) b (get_or qs k D).terms) (sym (get_or-map (λ (f : Polynomial). f.terms) kept k D [] inside)) (tails k D D inside));
    }
