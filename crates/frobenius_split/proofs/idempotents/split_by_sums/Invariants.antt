use Rattle.frobenius_split.specs.Idempotents.{AreIdempotents}
use Rattle.frobenius_split.proofs.idempotents.split_by_sums.Given as goal

abbrev pub invariant-loop-seed : goal.invariant-loop-seed
invariant-loop-seed l = AreIdempotents l.a l.es
