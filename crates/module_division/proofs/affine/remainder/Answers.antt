use Rattle.std.proofs.Common.{sym, ap, ◌∙◌, subst}
use Rattle.std.specs.List.{All}
use Rattle.module_division.specs.Ideals.{IsDivisionRemainder}
use Rattle.module_division.specs.Division.{IsDivisor, Reduces}
use Rattle.polys.specs.Poly.{terms_of, IsVector}
use Rattle.prime_field.specs.Primes.{IsPrime}
use Rattle.module_division.proofs.Standard.{divisors_of, is_remainder}
use Rattle.module_division.proofs.affine.remainder.Goals as goal

pub vector_remainder-requires-clause-divisors : goal.vector_remainder-requires-clause-divisors
vector_remainder-requires-clause-divisors c =
    let e = c.prime-prime.ensures in
    let prime = subst IsPrime (c.get-prime.ensures.value ∙ e) c.get-prime.ensures.prime in
    subst (λ q. All (IsDivisor q) c.args.divisors.now) (sym e)
    (divisors_of c.args.v.now.prime c.args.variables prime c.args.divisors.now c.requires.divisors c.requires.monic c.keep_vectors.ensures)

pub returns-clause-remainder : goal.returns-clause-remainder
returns-clause-remainder c =
    let e = c.prime-prime.ensures in
    let p = c.args.v.now.prime in
    let prime = subst IsPrime (c.get-prime.ensures.value ∙ e) c.get-prime.ensures.prime in
    let same = c.into_terms-terms.ensures.value ∙ ap (λ f. f.terms) c.in_ok-clone_poly.ensures in
    let reduces =
    subst (λ v. Reduces p (terms_of c.args.divisors.now) v c.in_ok-rest.rest.items) same
    (subst (λ q. Reduces q (terms_of c.args.divisors.now) c.into_terms-terms.result.items c.in_ok-rest.rest.items) e c.in_ok-rest.ensures.reduces)
    in
    subst (λ r. IsDivisionRemainder p c.args.variables (terms_of c.args.divisors.now) c.args.v.now.terms r) (sym (ap (λ f. f.terms) c.of_terms.ensures))
    (is_remainder p c.args.variables prime c.args.divisors.now c.args.v.now.terms c.in_ok-rest.rest.items c.requires.divisors c.requires.monic c.keep_vectors.ensures c.requires.poly reduces
    (subst (λ q. IsVector q c.in_ok-rest.rest.items) e c.in_ok-rest.ensures.known) c.in_ok-rest.ensures.outside)
