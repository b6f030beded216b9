use Rattle.monomials.proofs.Factors.{divides_law}
use Rattle.monomials.proofs.laws.divisors_are_factors.Goals as goal

pub returns : goal.returns
returns c = divides_law
