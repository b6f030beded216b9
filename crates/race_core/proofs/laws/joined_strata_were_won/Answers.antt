use Rattle.race_core.proofs.Reached.{joined-won}
use Rattle.race_core.proofs.laws.joined_strata_were_won.Goals as goal

pub returns : goal.returns
returns c = joined-won
