use Rattle.std.proofs.Common.{subst, sym, ◌∙◌, arith}
use Rattle.std.proofs.lemmas.List.{get_or_default}
use Rattle.monomials.specs.Mono.{Divides, unit}
use Rattle.corner_basis.proofs.staircase.has_divisor.Goals as goal

pub returns : goal.returns
returns c = (
  λ h. absurd (grind arith),
  λ h. absurd (c.loop-lead.invariant h.1.0 (let q = h.1.1 in omega arith) (subst (λ z. Divides z c.args.m.now) (sym (get_or_default c.args.leads.now h.1.0 unit h.0 h.1.1 ∙ h.1.2)) h.2)),
)
