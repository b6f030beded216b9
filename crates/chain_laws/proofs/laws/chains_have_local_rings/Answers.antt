use Rattle.chain_laws.proofs.ChainLaws.{starts_law, goes_on_law}
use Rattle.chain_laws.proofs.laws.chains_have_local_rings.Goals as goal

pub returns : goal.returns
returns c = record { start = starts_law; step = goes_on_law }
