use Rattle.curve_model.proofs.CuspLocal.{product_is_local}
use Rattle.curve_model.proofs.CuspWeights.{product_is_not_whole}
use Rattle.curve_model.proofs.examples.cusp_has_a_local_fraction.Goals as goal

pub returns : goal.returns
returns c = record { local = product_is_local; new = product_is_not_whole }
