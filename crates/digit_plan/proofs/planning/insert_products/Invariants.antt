use Rattle.digit_plan.specs.Playing.{GainsProducts}
use Rattle.digit_plan.proofs.planning.insert_products.Given as goal

abbrev pub invariant-loop-i : goal.invariant-loop-i
invariant-loop-i l = GainsProducts l.v l.i l.corners l.fn.border.items l.border.items
