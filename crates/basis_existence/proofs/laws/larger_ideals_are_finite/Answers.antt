use Rattle.basis_existence.proofs.Corners.{larger_law}
use Rattle.basis_existence.proofs.laws.larger_ideals_are_finite.Goals as goal

pub returns : goal.returns
returns c = larger_law
