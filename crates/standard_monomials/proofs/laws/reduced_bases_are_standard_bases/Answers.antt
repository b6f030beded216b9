use Rattle.standard_monomials.proofs.Bases.{reduced_law}
use Rattle.standard_monomials.proofs.laws.reduced_bases_are_standard_bases.Goals as goal

pub returns : goal.returns
returns c = reduced_law
