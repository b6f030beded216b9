use Rattle.homogenising.proofs.Found.{has_leads_law}
use Rattle.homogenising.proofs.laws.reduced_bases_have_all_leads.Goals as goal

pub returns : goal.returns
returns c = has_leads_law
