-- The products are those of an algebra.
use Rattle.std.proofs.Common.{arith}
use Rattle.frobenius_split.proofs.Worked.{double_quartic-laws}
use Rattle.frobenius_split.proofs.tests.double_quartic.Goals as goal

pub algebra_of-requires : goal.algebra_of-requires
algebra_of-requires g c = (omega arith, double_quartic-laws)
