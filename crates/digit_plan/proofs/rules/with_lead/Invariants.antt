use Rattle.std.proofs.Common.{ℕ, ◌<◌, get_or}
use Rattle.polys.specs.Poly.{Polynomial}
use Rattle.digit_plan.specs.Playing.{HasLead}
use Rattle.digit_plan.proofs.rules.with_lead.Given as goal

abbrev pub invariant-loop-i : goal.invariant-loop-i
invariant-loop-i l = (j : ℕ) (d : Polynomial) → j < l.i → HasLead (get_or l.basis j d).terms l.m → ⊥
