use Rattle.std.proofs.Common.{◌-◌, length}
use Rattle.digit_make.specs.Blocks.{AreGrown}
use Rattle.digit_make.specs.Rows.{AreRowsOf}
use Rattle.digit_make.proofs.growing.grow.Given as goal

abbrev pub invariant-loop-t : goal.invariant-loop-t
invariant-loop-t l = record {
  rows : AreRowsOf l.plan l.rows;
  border : AreGrown (length l.plan.corners) l.t l.depth 0 l.rows.border;
  outer : AreGrown (length l.plan.corners) (l.t - 1) (l.depth - 1) 0 l.rows.outer;
}
