use Rattle.digit_plan.specs.Playing.{AreVariables}
use Rattle.digit_plan.proofs.planning.order_of.Given as goal

abbrev pub invariant-loop-v : goal.invariant-loop-v
invariant-loop-v l = AreVariables l.v l.order.items
