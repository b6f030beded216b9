-- The products are those of an algebra.
use Rattle.std.proofs.Common.{arith}
use Rattle.finite_algebra.proofs.Examples.{three_laws}
use Rattle.frobenius_split.proofs.tests.three_points.Goals as goal

pub algebra_of-requires : goal.algebra_of-requires
algebra_of-requires g c = (omega arith, three_laws)
