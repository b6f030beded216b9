use Rattle.curve_examples.proofs.CuspClosure.{cusp_has_closure}
use Rattle.curve_examples.proofs.cusp_has_its_closure.Goals as goal

pub returns : goal.returns
returns c = cusp_has_closure
