use Rattle.std.proofs.Common.{◌<◌, ◌∙◌, arith, ap, subst}
use Rattle.finite_algebra.specs.Elements.{FiniteAlgebra, IsAlgebra}
use Rattle.finite_algebra.proofs.Powers.{power-one, power_step}
use Rattle.finite_algebra.proofs.algebra.Algebra.+power_by_squares.Goals as goal

pub returns-then-n-eq1-clause-power : goal.returns-then-n-eq1-clause-power
returns-then-n-eq1-clause-power t c =
    let S = c.args.self.now in
    let laws = subst IsAlgebra c.self.view_is c.self.invariant in
    let positive : 0 < S.prime = omega (arith, c.get-p.ensures.range, c.get-p.ensures.value, ap (λ (v : FiniteAlgebra). v.prime) c.self.view_is) in
    c.in_ok-row.ensures ∙ power-one S positive laws c.args.a.now c.args.n c.requires.a (omega (arith, c.if-n-eq1.true))

pub returns-clause-power : goal.returns-clause-power
returns-clause-power t c =
    let S = c.args.self.now in
    let laws = subst IsAlgebra c.self.view_is c.self.invariant in
    let positive : 0 < S.prime = omega (arith, c.get-p.ensures.range, c.get-p.ensures.value, ap (λ (v : FiniteAlgebra). v.prime) c.self.view_is) in
    power_step S positive laws c.args.a.now c.in_ok-row-2.row.items c.square.new.row.items c.multiply_if.new.row.items c.args.n c.in_ok-row-2.ensures.power c.square.ensures.square c.multiply_if.ensures.product c.multiply_if.ensures.same
