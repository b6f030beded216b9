use Rattle.curve_laws.proofs.StatedLaws.{closed_law}
use Rattle.curve_laws.proofs.laws.fractions_are_closed.Goals as goal

pub returns : goal.returns
returns c = closed_law
