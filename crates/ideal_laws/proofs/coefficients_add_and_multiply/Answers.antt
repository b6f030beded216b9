use Rattle.ideal_laws.proofs.Coefficients.{coefficient_law}
use Rattle.ideal_laws.proofs.coefficients_add_and_multiply.Goals as goal

pub returns : goal.returns
returns c = coefficient_law
