use Rattle.standard_monomials.proofs.Bases.{monomials_law}
use Rattle.standard_monomials.proofs.laws.monomials_are_standard_bases.Goals as goal

pub returns : goal.returns
returns c = monomials_law
