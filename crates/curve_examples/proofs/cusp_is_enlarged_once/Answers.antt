use Rattle.curve_examples.proofs.CuspRings.{cusp_is_not_full}
use Rattle.curve_examples.proofs.CuspDelta.{closure_is_full}
use Rattle.curve_examples.proofs.cusp_is_enlarged_once.Goals as goal

pub returns : goal.returns
returns c = record { not_full = cusp_is_not_full; full = closure_is_full }
