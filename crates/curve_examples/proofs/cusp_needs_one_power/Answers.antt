use Rattle.curve_examples.proofs.CuspPower as cusp
use Rattle.curve_examples.proofs.cusp_needs_one_power.Goals as goal

pub returns : goal.returns
returns c = cusp.cusp_needs_one_power
