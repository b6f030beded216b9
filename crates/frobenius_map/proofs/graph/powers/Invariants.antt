use Rattle.std.proofs.Common.{◌≡◌, ◌<◌, ℕ, [], length, get_or}
use Rattle.frobenius_map.specs.Powers.{IsGraph, IsPowerOfUnit}
use Rattle.frobenius_map.proofs.graph.powers.Given as goal

abbrev pub invariant-loop-k : goal.invariant-loop-k
invariant-loop-k l = record {
  graph : IsGraph l.a l.graph;
  long : length l.rows ≡ l.k;
  powers : (j : ℕ) → j < l.k → IsPowerOfUnit l.a j (get_or l.rows j []);
}
