use Rattle.curve_laws.proofs.EnlargingLaws.{enlargement_law, full_law}
use Rattle.curve_laws.proofs.laws.local_rings_are_enlarged.Goals as goal

pub returns : goal.returns
returns c = record { enlarged = enlargement_law; full = full_law }
