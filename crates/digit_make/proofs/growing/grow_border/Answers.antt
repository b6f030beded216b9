use Rattle.std.proofs.Common.{◌-◌, length, subst, sym, arith}
use Rattle.digit_make.specs.Blocks.{AreGrown}
use Rattle.digit_make.proofs.Growth.{grown_end}
use Rattle.digit_make.proofs.growing.grow_border.Goals as goal

pub returns-clause-grown : goal.returns-clause-grown
returns-clause-grown c =
    grown_end (length c.args.plan.now.corners) c.args.t c.args.most c.loop-j.j c.loop-j.rows.border c.loop-j.invariant.grown
    (let n = c.loop-j.invariant.rows.border.count in let l = c.len-j-end.ensures in omega (arith, c.loop-j-test.false))

pub grow_border_row-requires-clause-outer : goal.grow_border_row-requires-clause-outer
grow_border_row-requires-clause-outer c = subst (AreGrown (length c.args.plan.now.corners) c.args.t (c.args.most - 1) 0) (sym c.loop-j.invariant.other) c.requires.outer
