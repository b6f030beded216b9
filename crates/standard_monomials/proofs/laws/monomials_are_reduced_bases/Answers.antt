use Rattle.standard_monomials.proofs.Minimal.{minimal_law}
use Rattle.standard_monomials.proofs.laws.monomials_are_reduced_bases.Goals as goal

pub returns : goal.returns
returns c = minimal_law
