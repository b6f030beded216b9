use Rattle.std.proofs.Common.{◌<◌, ◌∙◌, arith, ap}
use Rattle.finite_algebra.specs.Elements.{FiniteAlgebra}
use Rattle.finite_algebra.proofs.Powers.{power-none}
use Rattle.finite_algebra.proofs.algebra.Algebra.power.Goals as goal

pub returns-then-n-eq0-clause-power : goal.returns-then-n-eq0-clause-power
returns-then-n-eq0-clause-power c =
    let S = c.args.self.now in
    let positive : 0 < S.prime = omega (arith, c.get-p.ensures.range, c.get-p.ensures.value, ap (λ (v : FiniteAlgebra). v.prime) c.self.view_is) in
    c.of_vec.ensures ∙ c.in_ok-one.ensures ∙ c.one.ensures.value ∙ power-none S positive c.one-one.ensures.laws c.args.a.now c.args.n (omega (arith, c.if-n-eq0.true))
