use Rattle.race_core.proofs.Reached.{joined-once}
use Rattle.race_core.proofs.laws.no_stratum_is_joined_twice.Goals as goal

pub returns : goal.returns
returns c = joined-once
