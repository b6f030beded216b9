use Rattle.point_quotient.proofs.CornerRows.{corner_rows}
use Rattle.point_quotient.proofs.base.corner_rows.Goals as goal

pub returns : goal.returns
returns c = corner_rows c.args.digits.now c.basis-basis.ensures.known c.args.unit.now c.requires c.in_ok-rows.rows c.in_ok-rows.ensures.count c.in_ok-rows.ensures.rows
