use Rattle.module_basis.proofs.pairs.is_chained.Given as goal

abbrev pub invariant-loop-k : goal.invariant-loop-k
invariant-loop-k l = Unit {0}
