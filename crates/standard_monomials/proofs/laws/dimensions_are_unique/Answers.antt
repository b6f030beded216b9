use Rattle.standard_monomials.proofs.Unique.{unique_law}
use Rattle.standard_monomials.proofs.laws.dimensions_are_unique.Goals as goal

pub returns : goal.returns
returns c = unique_law
