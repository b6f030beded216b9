use Rattle.std.proofs.Common.{refl, ◌<◌, ◌*◌, ◌∙◌, ℕ, length, arith, subst}
use Rattle.prime_field.specs.Primes.{IsPrime}
use Rattle.polys.specs.Poly.{power_of}
use Rattle.singular_text.proofs.Fits.{plain_fit, checked_fit, power_poly, power_large}
use Rattle.singular_text.proofs.evaluation.Ground.power.Goals as goal

pub returns-then-n-degree-gt-MAX_VALUE_DEGREE-clause-exact : goal.returns-then-n-degree-gt-MAX_VALUE_DEGREE-clause-exact
returns-then-n-degree-gt-MAX_VALUE_DEGREE-clause-exact c =
    let p = c.args.self.now.prime in
    let n = length c.args.self.now.letters in
    let above : 1 < p = omega (arith, c.get-prime.ensures.range.0, c.get-prime.ensures.value) in
    let P : ℕ → Type 0 = λ (q : ℕ). IsPrime q in
    power_large p n c.args.base.now c.args.digits.now c.number_up_to-n.result (subst P c.get-prime.ensures.value c.get-prime.ensures.prime) c.leads_multiply.ensures
    (c.polynomials_are_a_ring.ensures.closed p n above) c.requires (λ zero. c.if-degree-eq0.false (c.degree-degree.ensures ∙ zero)) c.number_up_to-n.ensures
    (subst (λ (d : ℕ). 60 < c.number_up_to-n.result * d) c.degree-degree.ensures c.if-n-degree-gt-MAX_VALUE_DEGREE.true)

pub small_power-requires-clause-plain : goal.small_power-requires-clause-plain
small_power-requires-clause-plain c = plain_fit c.args.self.now.prime (length c.args.self.now.letters) c.args.base.now c.requires

pub returns-clause-fit : goal.returns-clause-fit
returns-clause-fit c =
    let p = c.args.self.now.prime in
    let n = length c.args.self.now.letters in
    let above : 1 < p = omega (arith, c.get-prime.ensures.range.0, c.get-prime.ensures.value) in
    let power = power_of c.args.base.now c.number_up_to-n.result in
    checked_fit p n c.small_power.result power power c.small_power.ensures.degree refl c.requires.prime
    (power_poly p n c.args.base.now c.number_up_to-n.result (c.polynomials_are_a_ring.ensures.closed p n above) c.requires)
