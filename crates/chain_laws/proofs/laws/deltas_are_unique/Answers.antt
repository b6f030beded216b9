use Rattle.chain_laws.proofs.FewerLaws.{unique_delta_law, fewer_law}
use Rattle.chain_laws.proofs.laws.deltas_are_unique.Goals as goal

pub returns : goal.returns
returns c = record { unique = unique_delta_law; fewer = fewer_law }
