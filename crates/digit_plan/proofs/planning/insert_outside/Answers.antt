use Rattle.digit_plan.proofs.Playing.{outside_new}
use Rattle.digit_plan.proofs.planning.insert_outside.Goals as goal

pub returns : goal.returns
returns c =
    outside_new c.args.corners.now c.args.border.now.items c.insert.new.found.items c.args.m (c.if-holds.ensures) c.in_ok-insert.ensures.gains c.in_ok-insert.ensures.one
