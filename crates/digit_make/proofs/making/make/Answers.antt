use Rattle.std.proofs.Common.{◌-◌, length}
use Rattle.digit_make.proofs.Growth.{empty_blocks}
use Rattle.digit_make.proofs.Made.{empty_known}
use Rattle.digit_make.proofs.making.make.Goals as goal

pub digits_from-requires-clause-rows : goal.digits_from-requires-clause-rows
digits_from-requires-clause-rows c =
    let plan = c.in_ok-plan.plan in
    let h = c.in_ok-plan.ensures.plan in
    record {
      border = empty_known plan h plan.border c.in_ok-empty_rows.field-0 c.len-2.result h.border c.in_ok-empty_rows.ensures c.len-2.ensures;
      outer = empty_known plan h plan.outer c.in_ok-empty_rows-2.field-0 c.len-3.result h.outer c.in_ok-empty_rows-2.ensures c.len-3.ensures;
    }

pub digits_from-requires-clause-border : goal.digits_from-requires-clause-border
digits_from-requires-clause-border c = empty_blocks (length c.in_ok-plan.plan.corners) c.args.t c.len-2.result c.in_ok-empty_rows.field-0 c.in_ok-empty_rows.ensures

pub digits_from-requires-clause-outer : goal.digits_from-requires-clause-outer
digits_from-requires-clause-outer c = empty_blocks (length c.in_ok-plan.plan.corners) (c.args.t - 1) c.len-3.result c.in_ok-empty_rows-2.field-0 c.in_ok-empty_rows-2.ensures
