use Rattle.std.proofs.Common.{◌≡◌, ℕ, ◌<◌, length, get_or}
use Rattle.std.specs.List.{All}
use Rattle.monomials.specs.Mono.{unit}
use Rattle.digit_plan.specs.declared.plan.Rule.{Rule}
use Rattle.digit_plan.specs.Lifts.{curve_of_lifted}
use Rattle.digit_plan.specs.Playing.{seen}
use Rattle.digit_plan.specs.Planned.{IsRuleIn, NamesOnly}
use Rattle.digit_plan.proofs.rules.rules_of.Given as goal

abbrev pub invariant-loop-i : goal.invariant-loop-i
invariant-loop-i l = record {
  count : length l.rules ≡ l.i;
  each : (j : ℕ) (d : Rule) → j < length l.rules → IsRuleIn (curve_of_lifted l.lifted) l.play.corners l.play.border l.play.outer (get_or l.monomials j unit) (get_or l.rules j d);
  inner : All (NamesOnly l.play.corners l.play.border (seen l.inside l.play.outer)) l.rules;
}
