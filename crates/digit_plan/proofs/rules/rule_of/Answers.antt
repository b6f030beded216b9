use Rattle.std.proofs.Common.{length, sym, ap, subst, arith}
use Rattle.std.specs.List.{Contains}
use Rattle.polys.specs.Poly.{terms_of}
use Rattle.digit_plan.specs.Playing.{seen}
use Rattle.digit_plan.proofs.Leads.{lift_read}
use Rattle.digit_plan.proofs.Parents.{affine_of, lift_covered, parent_of, rising_of, tail_covered, tail_inner}
use Rattle.digit_plan.proofs.rules.rule_of.Goals as goal

pub lead_rule-requires-clause-prime : goal.lead_rule-requires-clause-prime
lead_rule-requires-clause-prime c =
    (lift_read c.args.lifted.now c.args.play.now.lifts c.as_slice.result.now c.sum_basis-basis.result.now c.in-Some.i c.index-as_slice-i.result c.index-basis-i.result c.requires.play.lifts c.as_slice.ensures
    c.sum_basis-basis.ensures.value c.in-Some.ensures.some.0 c.index-as_slice-i.is c.index-basis-i.is).0

pub lead_rule-requires-clause-lift : goal.lead_rule-requires-clause-lift
lead_rule-requires-clause-lift c =
    (lift_read c.args.lifted.now c.args.play.now.lifts c.as_slice.result.now c.sum_basis-basis.result.now c.in-Some.i c.index-as_slice-i.result c.index-basis-i.result c.requires.play.lifts c.as_slice.ensures
    c.sum_basis-basis.ensures.value c.in-Some.ensures.some.0 c.index-as_slice-i.is c.index-basis-i.is).1

pub lead_rule-requires-clause-m : goal.lead_rule-requires-clause-m
lead_rule-requires-clause-m c = affine_of c.args.lifted.now c.sum_basis-basis.ensures.known c.args.play.now c.requires.play c.args.inside c.args.m.now c.requires.m

pub lead_rule-requires-clause-rising : goal.lead_rule-requires-clause-rising
lead_rule-requires-clause-rising c = rising_of c.args.lifted.now c.sum_basis-basis.ensures.known c.args.play.now c.requires.play

pub lead_rule-requires-clause-inner : goal.lead_rule-requires-clause-inner
lead_rule-requires-clause-inner c =
    tail_inner c.args.lifted.now c.sum_basis-basis.ensures.known c.args.play.now c.requires.play c.sum_basis-basis.result.now c.in-Some.i c.index-basis-i.result c.args.m.now c.sum_basis-basis.ensures.value
    c.in-Some.ensures.some.0 c.index-basis-i.is c.in-Some.ensures.some.1

pub lead_rule-requires-clause-tail : goal.lead_rule-requires-clause-tail
lead_rule-requires-clause-tail c =
    tail_covered c.args.lifted.now c.sum_basis-basis.ensures.known c.args.play.now c.requires.play c.sum_basis-basis.result.now c.in-Some.i c.index-basis-i.result c.args.m.now c.sum_basis-basis.ensures.value
    c.in-Some.ensures.some.0 c.index-basis-i.is c.in-Some.ensures.some.1

pub lead_rule-requires-clause-covered : goal.lead_rule-requires-clause-covered
lead_rule-requires-clause-covered c =
    lift_covered c.args.lifted.now c.sum_basis-basis.ensures.known c.args.play.now c.requires.play c.as_slice.result.now c.in-Some.i c.index-as_slice-i.result c.as_slice.ensures
    (let x = c.requires.play.lifts.count in let y = ap length c.sum_basis-basis.ensures.value in let z = c.in-Some.ensures.some.0 in omega arith) c.index-as_slice-i.is

pub multiple_rule-requires-clause-rising : goal.multiple_rule-requires-clause-rising
multiple_rule-requires-clause-rising c = rising_of c.args.lifted.now c.sum_basis-basis.ensures.known c.args.play.now c.requires.play

pub multiple_rule-requires-clause-parent : goal.multiple_rule-requires-clause-parent
multiple_rule-requires-clause-parent c =
    parent_of c.args.lifted.now c.sum_basis-basis.ensures.known c.args.play.now c.requires.play c.args.inside c.args.m.now c.requires.m
    (λ g k. c.in-None.ensures.none g (subst (λ z. Contains (terms_of z) g) (sym c.sum_basis-basis.ensures.value) k))

pub returns-in-Some-clause-inner : goal.returns-in-Some-clause-inner
returns-in-Some-clause-inner c = c.lead_rule.ensures.inner (seen c.args.inside c.args.play.now.outer)
