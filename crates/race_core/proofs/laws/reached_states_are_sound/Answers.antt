use Rattle.race_core.proofs.Reached.{reached-sound}
use Rattle.race_core.proofs.laws.reached_states_are_sound.Goals as goal

pub returns : goal.returns
returns c = reached-sound
