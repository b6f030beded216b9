use Rattle.curve_laws.proofs.DeltaLaws.{bound_law}
use Rattle.curve_laws.proofs.laws.delta_bounds_the_power.Goals as goal

pub returns : goal.returns
returns c = bound_law
