use Rattle.standard_monomials.proofs.Remainders.{remainders_law}
use Rattle.standard_monomials.proofs.laws.standard_monomials_are_a_basis.Goals as goal

pub returns : goal.returns
returns c = remainders_law
