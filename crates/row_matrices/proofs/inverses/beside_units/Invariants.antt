use Rattle.std.proofs.Common.{◌≡◌, ◌+◌}
use Rattle.row_matrices.proofs.inverses.beside_units.Given as goal

abbrev pub invariant-loop-k : goal.invariant-loop-k
invariant-loop-k l = record {
  prime : l.space.prime ≡ l.fn.prime;
  width : l.space.width ≡ l.n + l.n;
}
