use Rattle.curve_examples.proofs.CuspDimension as cusp
use Rattle.curve_examples.proofs.cusp_has_dimension_four.Goals as goal

pub returns : goal.returns
returns c = cusp.cusp_has_dimension_four
