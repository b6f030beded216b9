-- The products are those of an algebra.
use Rattle.std.proofs.Common.{arith}
use Rattle.frobenius_split.proofs.Worked.{fourth_powers-laws}
use Rattle.frobenius_split.proofs.tests.fourth_powers.Goals as goal

pub algebra_of-requires : goal.algebra_of-requires
algebra_of-requires g c = (omega arith, fourth_powers-laws)
