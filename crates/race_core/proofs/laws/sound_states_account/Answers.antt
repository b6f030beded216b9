use Rattle.race_core.proofs.Reached.{sound-account}
use Rattle.race_core.proofs.laws.sound_states_account.Goals as goal

pub returns : goal.returns
returns c = sound-account
