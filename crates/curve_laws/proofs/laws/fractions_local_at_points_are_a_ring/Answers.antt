use Rattle.curve_laws.proofs.LocalRingLaws.{local_ring_law}
use Rattle.curve_laws.proofs.laws.fractions_local_at_points_are_a_ring.Goals as goal

pub returns : goal.returns
returns c = local_ring_law
