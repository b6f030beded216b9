use Rattle.std.proofs.Common.{below_more, refl}
use Rattle.standard_monomials.proofs.finding.has_all_power_leads.Goals as goal

pub loop-v-preserved : goal.loop-v-preserved
loop-v-preserved c = below_more _ _ c.loop-v.invariant (c.if-not-has_power_lead.ensures.0 refl)
