use Rattle.point_quotient.proofs.ProductLists.{products_more}
use Rattle.point_quotient.proofs.multiplying.all_products.Goals as goal

pub loop-f-preserved : goal.loop-f-preserved
loop-f-preserved c =
    let g = c.args.digits.now in
    products_more g c.args.depth c.args.rows.now c.args.factors.now c.loop-f.f-index c.f-item.result c.loop-f-test.true c.f-item.is c.loop-f.made c.in_ok-products.products c.append.new.self c.loop-f.invariant
    c.in_ok-products.ensures c.in_ok-append.ensures.ok
