use Rattle.point_quotient.proofs.CornerRows.{one_more}
use Rattle.point_quotient.proofs.base.push_products.Goals as goal

pub returns : goal.returns
returns c =
    one_more c.args.digits.now c.basis-basis.ensures.known c.args.i c.requires.i c.args.row.now c.requires.row c.args.products.now c.in_ok-rows.rows c.append.new.self
    c.in_ok-append.ensures.ok c.in_ok-rows.ensures.count c.in_ok-rows.ensures.rows c.requires.before
