use Rattle.std.proofs.Common.{◌≡◌, set, arith, ap}
use Rattle.monomials.specs.Mono.{total_degree}
use Rattle.monomials.proofs.Exponents.{total_degree-set, exponent_le}
use Rattle.monomials.proofs.mono.Mono.with_hom.Goals as goal

pub overflow_cast-exponents : goal.overflow_cast-exponents
overflow_cast-exponents c =
    let a = c.self.inside.exponents in
    let s = c.self.invariant.1.seven in
    let e : total_degree (set a 6 c.args.e) ≡ total_degree (set c.args.self.exponents 6 c.args.e) = ap (λ m. total_degree (set m.exponents 6 c.args.e)) c.self.view_is in
    let h = c.requires in
    omega (arith, total_degree-set a 6 c.args.e (omega arith), exponent_le a 6)
