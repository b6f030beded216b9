use Rattle.std.proofs.Common.{◌≡◌, map, sym, ap, ◌∙◌, subst}
use Rattle.std.proofs.lemmas.Result.{IfOk-weaker}
use Rattle.prime_field.specs.Primes.{IsPrime}
use Rattle.polys.specs.Reduced.{Reduced}
use Rattle.standard_monomials.specs.Finding.{terms_of}
use Rattle.standard_monomials.specs.Standard.{polynomial_of}
use Rattle.standard_monomials.proofs.Minimal.{minimal_law}
use Rattle.standard_monomials.proofs.finding.tests.basis_of.Goals as goal

pub returns : goal.returns
returns c =
    let p = c.args.prime in
    let n = c.args.variables in
    let ms = c.in_ok-ms.ms.items in
    let prime = subst IsPrime c.get-prime.ensures.value c.get-prime.ensures.prime in
    let r : Reduced p n (map polynomial_of ms) = minimal_law p n ms prime c.in_ok-ms.ensures.affine c.in_ok-ms.ensures.minimal in
    IfOk-weaker c.polynomials.result (λ v. terms_of v.items ≡ map polynomial_of c.as_slice.result.now) (λ v. Reduced p n (terms_of v.items))
    (λ v e. subst (Reduced p n) (sym (e ∙ ap (map polynomial_of) c.as_slice.ensures.value)) r) c.polynomials.ensures
