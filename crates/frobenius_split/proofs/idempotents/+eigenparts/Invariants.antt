use Rattle.std.proofs.Common.{length}
use Rattle.frobenius_split.proofs.idempotents.+eigenparts.Given as goal

abbrev pub decreases-eigenparts : goal.decreases-eigenparts
decreases-eigenparts l = length l.roots.now
