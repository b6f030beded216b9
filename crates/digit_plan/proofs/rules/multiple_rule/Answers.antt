use Rattle.std.proofs.Common.{sym, subst, arith}
use Rattle.digit_plan.specs.Lifts.{curve_of_lifted}
use Rattle.digit_plan.specs.Playing.{AreVariables, seen}
use Rattle.digit_plan.specs.Planned.{IsRuleIn}
use Rattle.digit_plan.proofs.Parents.{order_ends}
use Rattle.digit_plan.proofs.Playing.{variable_at}
use Rattle.digit_plan.proofs.rules.multiple_rule.Goals as goal

pub rule_by-requires-clause-v : goal.rule_by-requires-clause-v
rule_by-requires-clause-v c =
    let n = c.args.lifted.now.variables in
    let l = variable_at n c.loop-k.k c.as_slice-order.result.now (subst (AreVariables n) (sym c.as_slice-order.ensures.value) c.requires.order) c.loop-k-test.true in
    let s = c.requires.variables in
    omega arith

pub returns-in-Some-clause-rule : goal.returns-in-Some-clause-rule
returns-in-Some-clause-rule c =
    let n = c.args.lifted.now.variables in
    let play = c.args.play.now in
    let l = variable_at n c.loop-k.k c.as_slice-order.result.now (subst (AreVariables n) (sym c.as_slice-order.ensures.value) c.requires.order) c.loop-k-test.true in
    let r = c.in-Some.ensures.some in
    subst (IsRuleIn (curve_of_lifted c.args.lifted.now) play.corners play.border play.outer c.args.m.now) (sym r.1) (l, r.2, r.3)

pub unreachable-requires : goal.unreachable-requires
unreachable-requires c =
    let n = c.args.lifted.now.variables in
    let play = c.args.play.now in
    order_ends n c.loop-k.k c.as_slice-order.result.now c.args.m.now play.border (seen c.args.inside play.outer) (subst (AreVariables n) (sym c.as_slice-order.ensures.value) c.requires.order) c.loop-k-test.false
    c.requires.parent c.loop-k.invariant
