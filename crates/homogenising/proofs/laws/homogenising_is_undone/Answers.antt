use Rattle.homogenising.proofs.Lifted.{homogenised_law}
use Rattle.homogenising.proofs.laws.homogenising_is_undone.Goals as goal

pub returns : goal.returns
returns c = homogenised_law
