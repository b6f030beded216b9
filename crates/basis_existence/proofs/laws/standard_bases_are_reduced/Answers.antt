use Rattle.basis_existence.proofs.Reducing.{reduces_law}
use Rattle.basis_existence.proofs.laws.standard_bases_are_reduced.Goals as goal

pub returns : goal.returns
returns c = reduces_law
