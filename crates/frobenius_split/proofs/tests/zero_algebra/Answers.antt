-- The products are those of an algebra.
use Rattle.std.proofs.Common.{arith}
use Rattle.finite_algebra.proofs.Examples.{zero_laws}
use Rattle.frobenius_split.proofs.tests.zero_algebra.Goals as goal

pub algebra_of-requires : goal.algebra_of-requires
algebra_of-requires g c = (omega arith, zero_laws)
