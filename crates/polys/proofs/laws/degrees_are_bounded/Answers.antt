use Rattle.polys.proofs.Stated.{degree_law}
use Rattle.polys.proofs.laws.degrees_are_bounded.Goals as goal

pub returns : goal.returns
returns c = degree_law
