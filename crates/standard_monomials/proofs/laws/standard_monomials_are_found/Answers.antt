use Rattle.standard_monomials.proofs.Search.{found_law}
use Rattle.standard_monomials.proofs.laws.standard_monomials_are_found.Goals as goal

pub returns : goal.returns
returns c = found_law
