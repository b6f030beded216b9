use Rattle.corner_basis.specs.Tried.{AreTried, IsSearched, left}
use Rattle.corner_basis.proofs.staircase.Staircase.of_front.Given as goal

abbrev pub invariant-loop-next : goal.invariant-loop-next
invariant-loop-next l = AreTried l.front l.found × IsSearched l.front l.next l.queue.items l.found

abbrev pub decreases-loop-next : goal.decreases-loop-next
decreases-loop-next l = left l.front l.next l.queue.items l.found
