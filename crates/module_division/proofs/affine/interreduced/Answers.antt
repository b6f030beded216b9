use Rattle.std.proofs.Common.{◌≤◌, ℕ, List, subst, sym}
use Rattle.std.specs.List.{All}
use Rattle.polys.specs.Poly.{terms_of, Polynomial}
use Rattle.polys.specs.Curve.{IsOver}
use Rattle.polys.specs.Ideal.{InIdeal}
use Rattle.polys.specs.Reduced.{IsReducedBasis}
use Rattle.polys.specs.Terms.{degree_of}
use Rattle.prime_field.specs.Primes.{IsPrime}
use Rattle.module_division.proofs.Standard.{basis, divisors_of, low}
use Rattle.module_division.proofs.affine.interreduced.Goals as goal

pub interreduced_vectors-requires : goal.interreduced_vectors-requires
interreduced_vectors-requires c =
    let prime = subst IsPrime c.get-prime.ensures.value c.get-prime.ensures.prime in
    let s = c.requires.standard in
    divisors_of c.args.prime c.args.variables prime c.args.members.now s.over s.monic c.keep_vectors.ensures

pub returns-clause-over : goal.returns-clause-over
returns-clause-over c =
    let prime = subst IsPrime c.get-prime.ensures.value c.get-prime.ensures.prime in
    subst (All (IsOver c.args.prime c.args.variables)) (sym c.of_vec.ensures)
    (basis c.args.prime c.args.variables prime c.args.members.now c.in_ok-interreduced_vectors.field-0.items c.requires.standard c.keep_vectors.ensures c.in_ok-interreduced_vectors.ensures).over

pub returns-clause-basis : goal.returns-clause-basis
returns-clause-basis c =
    let prime = subst IsPrime c.get-prime.ensures.value c.get-prime.ensures.prime in
    subst (λ ds. IsReducedBasis c.args.prime c.args.variables (InIdeal c.args.prime c.args.variables (terms_of c.args.members.now)) (terms_of ds)) (sym c.of_vec.ensures)
    (basis c.args.prime c.args.variables prime c.args.members.now c.in_ok-interreduced_vectors.field-0.items c.requires.standard c.keep_vectors.ensures c.in_ok-interreduced_vectors.ensures).basis

pub returns-clause-low : goal.returns-clause-low
returns-clause-low c =
    let prime = subst IsPrime c.get-prime.ensures.value c.get-prime.ensures.prime in
    subst (λ (ds : List Polynomial). (D : ℕ) → All (λ f. degree_of f ≤ D) (terms_of c.args.members.now) → All (λ f. degree_of f ≤ D) (terms_of ds)) (sym c.of_vec.ensures)
    (low c.args.prime c.args.variables prime c.args.members.now c.in_ok-interreduced_vectors.field-0.items c.requires.standard c.keep_vectors.ensures c.in_ok-interreduced_vectors.ensures)
