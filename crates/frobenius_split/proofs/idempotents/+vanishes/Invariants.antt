use Rattle.std.proofs.Common.{length}
use Rattle.frobenius_split.proofs.idempotents.+vanishes.Given as goal

abbrev pub decreases-vanishes : goal.decreases-vanishes
decreases-vanishes l = length l.roots.now
