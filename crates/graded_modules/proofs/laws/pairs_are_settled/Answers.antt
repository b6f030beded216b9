use Rattle.graded_modules.proofs.Settled.{settled_law}
use Rattle.graded_modules.proofs.laws.pairs_are_settled.Goals as goal

pub returns : goal.returns
returns c = settled_law
