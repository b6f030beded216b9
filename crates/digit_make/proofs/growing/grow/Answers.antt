use Rattle.std.proofs.Common.{◌≡◌, ◌+◌, ◌-◌, length, sym, subst, arith}
use Rattle.digit_make.specs.Blocks.{AreGrown}
use Rattle.digit_make.proofs.Growth.{grown_long, grown_start}
use Rattle.digit_make.proofs.growing.grow.Goals as goal

pub loop-t-init : goal.loop-t-init
loop-t-init c = record {
  rows = c.requires.rows;
  border = grown_start (length c.args.plan.now.corners) c.args.depth c.args.rows.now.border c.requires.border;
  outer = grown_start (length c.args.plan.now.corners) (c.args.depth - 1) c.args.rows.now.outer c.requires.outer;
}

pub grow_border-requires-clause-grown : goal.grow_border-requires-clause-grown
grow_border-requires-clause-grown c =
    subst (AreGrown (length c.args.plan.now.corners) c.loop-t.t c.args.depth 0) (sym c.in_ok-grow_outer.ensures.border) c.loop-t.invariant.border

pub loop-t-preserved : goal.loop-t-preserved
loop-t-preserved c = record {
  rows = c.in_ok-grow_border.ensures.rows;
  border = c.in_ok-grow_border.ensures.grown;
  outer = subst (λ z. AreGrown (length c.args.plan.now.corners) z (c.args.depth - 1) 0 c.grow_border.new.rows.outer) (let e : c.loop-t.t ≡ c.loop-t.t + 1 - 1 = omega arith in e)
      (subst (AreGrown (length c.args.plan.now.corners) c.loop-t.t (c.args.depth - 1) 0) (sym c.in_ok-grow_border.ensures.outer) c.in_ok-grow_outer.ensures.grown);
}

pub returns-clause-border : goal.returns-clause-border
returns-clause-border c =
    let whole : c.loop-t.t ≡ c.args.depth = omega (arith, c.loop-t-test.false, c.loop-t.auto.t-end) in
    grown_long (length c.args.plan.now.corners) c.args.depth c.loop-t.rows.border
    (subst (λ z. AreGrown (length c.args.plan.now.corners) z c.args.depth 0 c.loop-t.rows.border) whole c.loop-t.invariant.border)

pub returns-clause-outer : goal.returns-clause-outer
returns-clause-outer c =
    let whole : c.loop-t.t ≡ c.args.depth = omega (arith, c.loop-t-test.false, c.loop-t.auto.t-end) in
    grown_long (length c.args.plan.now.corners) (c.args.depth - 1) c.loop-t.rows.outer
    (subst (λ z. AreGrown (length c.args.plan.now.corners) (z - 1) (c.args.depth - 1) 0 c.loop-t.rows.outer) whole c.loop-t.invariant.outer)

pub grow_outer-requires-clause-border : goal.grow_outer-requires-clause-border
grow_outer-requires-clause-border c =
    let same : c.args.depth ≡ c.args.depth - 1 + 1 = omega (arith, c.loop-t-test.true) in
    subst (λ z. AreGrown (length c.args.plan.now.corners) c.loop-t.t z 0 c.loop-t.rows.border) same c.loop-t.invariant.border
