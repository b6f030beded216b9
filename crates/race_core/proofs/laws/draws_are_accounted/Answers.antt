use Rattle.race_core.proofs.Reached.{accounted}
use Rattle.race_core.proofs.laws.draws_are_accounted.Goals as goal

pub returns : goal.returns
returns c = accounted
