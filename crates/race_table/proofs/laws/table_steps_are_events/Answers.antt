use Rattle.race_table.proofs.Shown.{steps-shown}
use Rattle.race_table.proofs.laws.table_steps_are_events.Goals as goal

pub returns : goal.returns
returns c = steps-shown
