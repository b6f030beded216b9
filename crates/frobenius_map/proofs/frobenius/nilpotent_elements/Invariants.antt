use Rattle.std.proofs.Common.{◌-◌, length}
use Rattle.frobenius_map.specs.Powers.{AreStages}
use Rattle.frobenius_map.proofs.frobenius.nilpotent_elements.Given as goal

abbrev pub invariant-loop-next : goal.invariant-loop-next
invariant-loop-next l = AreStages l.a l.found l.next

abbrev pub decreases-loop-next : goal.decreases-loop-next
decreases-loop-next l = l.a.dimension - length l.found.basis
