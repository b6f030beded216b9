use Rattle.curve_model.proofs.Cusp.{product_is_integral, inverse_is_not_integral}
use Rattle.curve_model.proofs.examples.cusp_has_integral_fractions.Goals as goal

pub returns-clause-product : goal.returns-clause-product
returns-clause-product c = product_is_integral

pub returns-clause-inverse : goal.returns-clause-inverse
returns-clause-inverse c = inverse_is_not_integral
