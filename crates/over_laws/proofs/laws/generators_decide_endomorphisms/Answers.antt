use Rattle.over_laws.proofs.Endo.{endo_law, over_ring_law}
use Rattle.over_laws.proofs.laws.generators_decide_endomorphisms.Goals as goal

pub returns : goal.returns
returns c = record { whole = endo_law; over_ring = over_ring_law }
