use Rattle.std.proofs.Common.{ℕ, ◌<◌}
use Rattle.standard_monomials.specs.Finding.{terms_of, HasPowerLead}
use Rattle.standard_monomials.proofs.finding.has_all_power_leads.Given as goal

abbrev pub invariant-loop-v : goal.invariant-loop-v
invariant-loop-v l = (v : ℕ) → v < l.v → HasPowerLead (terms_of l.basis) v
