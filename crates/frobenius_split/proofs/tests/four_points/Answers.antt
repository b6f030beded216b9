-- The products are those of an algebra.
use Rattle.std.proofs.Common.{arith}
use Rattle.frobenius_split.proofs.Worked.{four_points-laws}
use Rattle.frobenius_split.proofs.tests.four_points.Goals as goal

pub algebra_of-requires : goal.algebra_of-requires
algebra_of-requires g c = (omega arith, four_points-laws)
