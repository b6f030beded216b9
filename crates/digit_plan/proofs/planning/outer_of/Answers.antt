use Rattle.digit_plan.proofs.Playing.{covered_more}
use Rattle.digit_plan.proofs.planning.outer_of.Goals as goal

pub loop-i-preserved : goal.loop-i-preserved
loop-i-preserved c = record {
  outer = c.in_ok-insert_chains.ensures.outer;
  covered = covered_more c.args.corners.now c.args.border.now c.loop-i.outer.items c.insert_chains.new.outer.items c.args.lifts.now c.loop-i.i c.index-lifts-i.result c.in_ok-insert_chains.ensures.kept
      c.loop-i-test.true c.index-lifts-i.is c.loop-i.invariant.covered c.in_ok-insert_chains.ensures.covered;
}
