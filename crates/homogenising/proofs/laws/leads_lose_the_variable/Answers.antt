use Rattle.homogenising.proofs.Lifted.{dehomogenised_law}
use Rattle.homogenising.proofs.laws.leads_lose_the_variable.Goals as goal

pub returns : goal.returns
returns c = dehomogenised_law
