use Rattle.std.proofs.Common.{All}
use Rattle.frobenius_map.specs.Powers.{IsGraph, IsPair}
use Rattle.frobenius_map.proofs.graph.step.Given as goal

abbrev pub invariant-loop-i : goal.invariant-loop-i
invariant-loop-i l = record {
  graph : IsGraph l.a l.graph;
  fresh : All (IsPair l.a) l.fresh;
}
