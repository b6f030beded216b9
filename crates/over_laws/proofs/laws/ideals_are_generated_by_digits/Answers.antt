use Rattle.over_laws.proofs.BaseIdeals.{generated_law}
use Rattle.over_laws.proofs.laws.ideals_are_generated_by_digits.Goals as goal

pub returns : goal.returns
returns c = generated_law
