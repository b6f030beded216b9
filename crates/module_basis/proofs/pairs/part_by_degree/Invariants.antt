use Rattle.module_basis.proofs.Parting.{ArePartedTo}
use Rattle.module_basis.proofs.pairs.part_by_degree.Given as goal

abbrev pub invariant-loop-k : goal.invariant-loop-k
invariant-loop-k l = ArePartedTo l.e l.k l.pairs l.due.items l.later.items
