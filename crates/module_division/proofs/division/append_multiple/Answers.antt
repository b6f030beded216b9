use Rattle.std.proofs.Common.{arith}
use Rattle.polys.proofs.Merge.{coeff_at}
use Rattle.polys.proofs.Products.{degree_at}
use Rattle.module_division.proofs.division.append_multiple.Goals as goal

pub term_product-requires-clause-left : goal.term_product-requires-clause-left
term_product-requires-clause-left c = (coeff_at c.args.p c.args.terms.now c.loop-u.u-index c.u-item.result c.requires.terms.canonical c.loop-u-test.true c.u-item.is).1

pub term_product-requires-clause-room : goal.term_product-requires-clause-room
term_product-requires-clause-room c =
    let low = degree_at c.args.terms.now c.loop-u.u-index c.u-item.result c.loop-u-test.true c.u-item.is in
    let h = c.requires.room in
    omega arith
