use Rattle.homogenising.proofs.Spanning.{decides_law}
use Rattle.homogenising.proofs.laws.remainders_decide_membership.Goals as goal

pub returns : goal.returns
returns c = decides_law
