use Rattle.finite_algebra.proofs.BasisLaws.{suffices}
use Rattle.finite_algebra.proofs.algebra.basis_laws_suffice.Goals as goal

pub returns : goal.returns
returns c = suffices
