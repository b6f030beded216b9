use Rattle.std.proofs.Common.{ℕ, map, sym, ap, ◌∙◌, subst, arith}
use Rattle.prime_field.specs.Primes.{IsPrime}
use Rattle.polys.specs.Poly.{Polynomial, IsVector}
use Rattle.graded_modules.specs.Vector.{IsGenerator}
use Rattle.denominator_module.specs.Module.{quotient_of}
use Rattle.lift_colon.specs.Parts.{opposed}
use Rattle.lift_colon.proofs.Quotients.{opposed_is, opposed_vector}
use Rattle.lift_colon.proofs.parts.quotient_of.Goals as goal

pub of_terms-requires : goal.of_terms-requires
of_terms-requires c =
    let p = c.prime-p.result in
    let v = c.args.v.now.terms in
    let e = sym c.prime-p.ensures in
    let w = c.get-prime.ensures.value in
    let r = c.get-prime.ensures.range in
    subst (IsVector p) (sym (c.in_ok-terms.ensures ∙ ap (map (opposed p)) c.terms.ensures.value))
    (opposed_vector p c.args.variables v (subst IsPrime w c.get-prime.ensures.prime) (omega arith) c.requires.six_variables
    (subst (λ q. (shift : ℕ) × IsGenerator q c.args.variables shift v) e c.requires.homogeneous) (subst (λ q. IsVector q v) e c.terms.ensures.known) c.requires.second)

pub returns-clause-terms : goal.returns-clause-terms
returns-clause-terms c =
    let p = c.prime-p.result in
    let v = c.args.v.now.terms in
    let e = sym c.prime-p.ensures in
    let w = c.get-prime.ensures.value in
    let r = c.get-prime.ensures.range in
    ap (λ (f : Polynomial). f.terms) c.of_terms.ensures ∙ c.in_ok-terms.ensures ∙ ap (map (opposed p)) c.terms.ensures.value
    ∙ opposed_is p c.args.variables v (subst IsPrime w c.get-prime.ensures.prime) (omega arith) c.requires.six_variables
    (subst (λ q. (shift : ℕ) × IsGenerator q c.args.variables shift v) e c.requires.homogeneous) (subst (λ q. IsVector q v) e c.terms.ensures.known) c.requires.second
    ∙ ap (λ q. quotient_of q v) c.prime-p.ensures
