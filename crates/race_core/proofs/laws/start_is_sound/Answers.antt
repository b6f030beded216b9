use Rattle.race_core.proofs.Reached.{start-sound}
use Rattle.race_core.proofs.laws.start_is_sound.Goals as goal

pub returns : goal.returns
returns c = start-sound
