use Rattle.std.proofs.Common.{ℕ, ◌<◌, get_or}
use Rattle.digit_plan.specs.Playing.{HasQuotientIn, seen}
use Rattle.digit_plan.proofs.rules.multiple_rule.Given as goal

abbrev pub invariant-loop-k : goal.invariant-loop-k
invariant-loop-k l = (j : ℕ) → j < l.k → HasQuotientIn (get_or l.order j 0) l.play.border (seen l.inside l.play.outer) l.m → ⊥
