use Rattle.std.proofs.Common.{◌-◌, arith}
use Rattle.monomials.proofs.Exponents.{total_degree-set}
use Rattle.module_basis.proofs.gens.lifted_term.Goals as goal

pub with_hom-requires : goal.with_hom-requires
with_hom-requires c =
    let a = c.args.t.now.mono.exponents in
    let k = c.degree.ensures.known.seven in
    let v = c.degree.ensures.value in
    let low = c.requires.low in
    let b = c.requires.bounded in
    let s = total_degree-set a 6 (c.args.degree - c.degree.result) (omega arith) in
    omega arith
