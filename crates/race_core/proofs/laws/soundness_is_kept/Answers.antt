use Rattle.race_core.proofs.Reached.{kept-sound}
use Rattle.race_core.proofs.laws.soundness_is_kept.Goals as goal

pub returns : goal.returns
returns c = kept-sound
