use Rattle.race_core.proofs.Reached.{not-refused}
use Rattle.race_core.proofs.laws.allowed_lists_are_not_refused.Goals as goal

pub returns : goal.returns
returns c = not-refused
