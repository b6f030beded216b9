use Rattle.monomials.proofs.Factors.{lcm_law}
use Rattle.monomials.proofs.laws.least_common_multiple.Goals as goal

pub returns : goal.returns
returns c = lcm_law
