use Rattle.std.proofs.Common.{◌≡◌, ◌-◌, length}
use Rattle.digit_make.specs.Blocks.{AreGrown}
use Rattle.digit_make.specs.Rows.{AreRowsOf}
use Rattle.digit_make.proofs.growing.grow_outer.Given as goal

abbrev pub invariant-loop-j : goal.invariant-loop-j
invariant-loop-j l = record {
  rows : AreRowsOf l.plan l.rows;
  grown : AreGrown (length l.plan.corners) (l.t - 1) l.most l.j l.rows.outer;
  other : l.rows.border ≡ l.initial.rows.border;
}
