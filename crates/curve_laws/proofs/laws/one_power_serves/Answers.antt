use Rattle.curve_laws.proofs.StatedLaws.{serves_law}
use Rattle.curve_laws.proofs.laws.one_power_serves.Goals as goal

pub returns : goal.returns
returns c = serves_law
