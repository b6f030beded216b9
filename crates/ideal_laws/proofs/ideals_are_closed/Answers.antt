use Rattle.ideal_laws.proofs.Ideals.{ideal_law}
use Rattle.ideal_laws.proofs.ideals_are_closed.Goals as goal

pub returns : goal.returns
returns c = ideal_law
