use Rattle.std.proofs.Common.{rules, ◌+◌, sym, subst}
use Rattle.digit_plan.specs.Playing.{AreVariables}
use Rattle.digit_plan.proofs.Playing.{variables_more}
use Rattle.digit_plan.proofs.planning.order_of.Goals as goal

pub loop-v-preserved : goal.loop-v-preserved
loop-v-preserved c =
    subst (AreVariables (c.loop-v.v + 1)) (sym c.in_ok-insert.ensures.items) (variables_more c.loop-v.v c.min.result c.loop-v.order.items c.loop-v.invariant (search rules))
