use Rattle.std.proofs.Common.{ℕ, ◌+◌, ◌<◌, length, get_or, sym, ap, ◌∙◌, subst}
use Rattle.std.proofs.lemmas.List.{length_push, get_or_default}
use Rattle.std.proofs.lemmas.List.Elements.{All-push}
use Rattle.monomials.specs.Mono.{unit}
use Rattle.digit_plan.specs.declared.plan.Rule.{Rule}
use Rattle.digit_plan.specs.Lifts.{curve_of_lifted}
use Rattle.std.specs.List.{All, Contains}
use Rattle.digit_plan.specs.Playing.{chosen, seen}
use Rattle.digit_plan.specs.Planned.{IsRuleIn, NamesOnly}
use Rattle.digit_plan.proofs.Found.{each_push}
use Rattle.digit_plan.proofs.rules.rules_of.Goals as goal

pub loop-i-preserved : goal.loop-i-preserved
loop-i-preserved c =
    let play = c.args.play.now in
    let A = curve_of_lifted c.args.lifted.now in
    let rules = c.loop-i.rules in
    let rule = c.in_ok-rule.rule in
    let ok = c.in_ok-push.ensures.ok in
    record {
      count = ap length ok ∙ length_push rules rule ∙ ap (λ z. z + 1) c.loop-i.invariant.count;
      each = subst (λ z. (j : ℕ) (d : Rule) → j < length z → IsRuleIn A play.corners play.border play.outer (get_or c.args.monomials.now j unit) (get_or z j d)) (sym ok)
          (each_push (λ j r. IsRuleIn A play.corners play.border play.outer (get_or c.args.monomials.now j unit) r) rules rule c.loop-i.invariant.each
          (subst (λ z. IsRuleIn A play.corners play.border play.outer z rule)
          (c.index-monomials-i.is ∙ get_or_default c.args.monomials.now c.loop-i.i c.index-monomials-i.result unit c.loop-i-test.true ∙ ap (λ z. get_or c.args.monomials.now z unit) (sym c.loop-i.invariant.count))
          c.in_ok-rule.ensures.rule));
      inner = subst (All (NamesOnly play.corners play.border (seen c.args.inside play.outer))) (sym ok)
          (All-push (NamesOnly play.corners play.border (seen c.args.inside play.outer)) rules rule c.loop-i.invariant.inner c.in_ok-rule.ensures.inner);
    }

pub rule_of-requires-clause-m : goal.rule_of-requires-clause-m
rule_of-requires-clause-m c =
    let list = chosen c.args.inside c.args.play.now.border c.args.play.now.outer in
    subst (Contains list) (sym c.index-monomials-i.is) (c.requires.each c.loop-i.i c.index-monomials-i.result c.loop-i-test.true)
