use Rattle.curve_answer.proofs.Deltas.{not_both}
use Rattle.curve_answer.proofs.laws.deltas_decide.Goals as goal

pub returns : goal.returns
returns c = not_both
