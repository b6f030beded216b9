use Rattle.std.proofs.Common.{arith}
use Rattle.monomials.proofs.Exponents.{total_degree-set}
use Rattle.module_basis.proofs.basis.lowered_term.Goals as goal

pub with_hom-requires : goal.with_hom-requires
with_hom-requires c =
    let k = c.degree-degree.ensures.known.seven in
    let b = c.degree-degree.ensures.known.bounded in
    let s = total_degree-set c.args.t.now.mono.exponents 6 0 (omega arith) in
    omega arith
