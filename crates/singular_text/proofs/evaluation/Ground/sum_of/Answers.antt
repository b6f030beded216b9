use Rattle.std.proofs.Common.{◌<◌, length, arith}
use Rattle.singular_text.proofs.Fits.{checked_fit, sum_poly}
use Rattle.singular_text.proofs.evaluation.Ground.sum_of.Goals as goal

pub returns-clause-fit : goal.returns-clause-fit
returns-clause-fit c =
    let p = c.args.self.now.prime in
    let n = length c.args.self.now.letters in
    let above : 1 < p = omega (arith, c.get-prime.ensures.range.0, c.get-prime.ensures.value) in
    checked_fit p n c.checked.result c.in_ok-add.field-0 _ c.checked.ensures.degree c.in_ok-add.ensures c.requires.left.prime
    (sum_poly p n c.args.f.now c.args.g.now (c.polynomials_are_a_ring.ensures.closed p n above) c.requires.left c.requires.right)
