use Rattle.module_division.proofs.Cores.{IsCoreSoFar}
use Rattle.module_division.proofs.reduction.without_superfluous.Given as goal

abbrev pub invariant-loop-k : goal.invariant-loop-k
invariant-loop-k l = IsCoreSoFar l.vectors l.kept.items l.k
