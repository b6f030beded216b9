use Rattle.std.proofs.Common.{All}
use Rattle.frobenius_map.specs.Powers.{IsGraph, IsPair}
use Rattle.frobenius_map.proofs.graph.close.Given as goal

abbrev pub invariant-loop-round : goal.invariant-loop-round
invariant-loop-round l = record {
  graph : IsGraph l.a l.graph;
  pairs : All (IsPair l.a) l.pairs;
}
