use Rattle.digit_plan.specs.Playing.{IsBorder}
use Rattle.digit_plan.proofs.planning.border_of.Given as goal

abbrev pub invariant-loop-v : goal.invariant-loop-v
invariant-loop-v l = IsBorder l.v l.corners l.border.items
