use Rattle.curve_examples.proofs.CuspDelta as cusp
use Rattle.curve_examples.proofs.cusp_has_delta_one.Goals as goal

pub returns : goal.returns
returns c = cusp.cusp_has_delta_one
