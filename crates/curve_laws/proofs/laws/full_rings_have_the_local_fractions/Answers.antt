use Rattle.curve_laws.proofs.DescentLaws.{descent_law}
use Rattle.curve_laws.proofs.laws.full_rings_have_the_local_fractions.Goals as goal

pub returns : goal.returns
returns c = descent_law
