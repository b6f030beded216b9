use Rattle.std.proofs.Common.{◌≡◌, ◌+◌, ◌-◌, length, subst, sym, arith}
use Rattle.digit_make.specs.Blocks.{AreGrown}
use Rattle.digit_make.proofs.Growth.{grown_end}
use Rattle.digit_make.proofs.growing.grow_outer.Goals as goal

pub returns-clause-grown : goal.returns-clause-grown
returns-clause-grown c =
    let same : c.args.t - 1 + 1 ≡ c.args.t = omega (arith, c.if-t-eq0.false) in
    subst (λ z. AreGrown (length c.args.plan.now.corners) z c.args.most 0 c.loop-j.rows.outer) same
    (grown_end (length c.args.plan.now.corners) (c.args.t - 1) c.args.most c.loop-j.j c.loop-j.rows.outer c.loop-j.invariant.grown
    (let n = c.loop-j.invariant.rows.outer.count in let l = c.len-j-end.ensures in omega (arith, c.loop-j-test.false)))

pub grow_outer_row-requires-clause-border : goal.grow_outer_row-requires-clause-border
grow_outer_row-requires-clause-border c =
    let same : c.args.t ≡ c.args.t - 1 + 1 = omega (arith, c.if-t-eq0.false) in
    subst (λ z. AreGrown (length c.args.plan.now.corners) z (c.args.most + 1) 0 c.loop-j.rows.border) same
    (subst (AreGrown (length c.args.plan.now.corners) c.args.t (c.args.most + 1) 0) (sym c.loop-j.invariant.other) c.requires.border)
