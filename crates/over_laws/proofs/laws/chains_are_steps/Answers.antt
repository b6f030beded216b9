use Rattle.over_laws.proofs.Steps.{begins_law, steps_law, one_law}
use Rattle.over_laws.proofs.laws.chains_are_steps.Goals as goal

pub returns : goal.returns
returns c = record { begin = begins_law; step = steps_law; one = one_law }
