use Rattle.digit_plan.proofs.Playing.{border_more, low}
use Rattle.digit_plan.proofs.planning.border_of.Goals as goal

pub insert_products-requires-clause-low : goal.insert_products-requires-clause-low
insert_products-requires-clause-low c = low c.args.variables c.args.corners.now c.requires.variables c.requires.corners

pub loop-v-preserved : goal.loop-v-preserved
loop-v-preserved c = border_more c.loop-v.v c.args.corners.now c.loop-v.border.items c.insert_products.new.border.items c.loop-v.invariant c.in_ok-insert_products.ensures
