use Rattle.polys.proofs.Stated.{lead_law}
use Rattle.polys.proofs.laws.leads_multiply.Goals as goal

pub returns : goal.returns
returns c = lead_law
