use Rattle.std.proofs.Common.{◌<◌, ◌+◌, length, arith}
use Rattle.monomials.proofs.Exponents.{total_degree-take, total_degree-take_le}
use Rattle.monomials.proofs.mono.degree_of.Goals as goal

pub overflow_add-degree : goal.overflow_add-degree
overflow_add-degree c =
    let a = c.args.exponents.now in
    let i = c.loop-e.e-index in
    let h : i < length a = omega arith in
    omega (arith, total_degree-take a i h, total_degree-take_le a (i + 1))

pub loop-e-preserved : goal.loop-e-preserved
loop-e-preserved c =
    let a = c.args.exponents.now in
    let i = c.loop-e.e-index in
    let h : i < length a = omega arith in
    omega (arith, total_degree-take a i h)
