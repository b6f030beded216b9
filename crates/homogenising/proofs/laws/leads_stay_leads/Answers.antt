use Rattle.homogenising.proofs.Stays.{stays_law}
use Rattle.homogenising.proofs.laws.leads_stay_leads.Goals as goal

pub returns : goal.returns
returns c = stays_law
