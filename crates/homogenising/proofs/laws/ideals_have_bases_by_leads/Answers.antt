use Rattle.homogenising.proofs.Spanning.{reduced_law}
use Rattle.homogenising.proofs.laws.ideals_have_bases_by_leads.Goals as goal

pub returns : goal.returns
returns c = reduced_law
