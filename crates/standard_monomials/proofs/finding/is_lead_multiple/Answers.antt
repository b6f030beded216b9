use Rattle.std.proofs.Common.{arith}
use Rattle.monomials.specs.Mono.{Divides}
use Rattle.graded_modules.specs.Vector.{lead_mono}
use Rattle.standard_monomials.proofs.Leads.{no_terms}
use Rattle.standard_monomials.proofs.finding.is_lead_multiple.Goals as goal

pub returns : goal.returns
returns c = (
  λ h. absurd (grind arith),
  λ h. absurd (no_terms (λ b. Divides (lead_mono b) c.args.m.now) c.args.basis.now (λ k d l. c.loop-f.invariant k d (omega arith)) h.0 h.1 h.2),
)
