use Rattle.std.proofs.Common.{◌≡◌, ◌<◌, ◌≤◌, length, All}
use Rattle.row_matrices.proofs.backward.last_places.Given as goal

abbrev pub invariant-loop-i : goal.invariant-loop-i
invariant-loop-i l = record {
  prime : l.space.prime ≡ l.fn.prime;
  width : l.space.width ≡ l.columns;
  i : l.i ≤ length l.rows;
  places : All (λ q. q < length l.rows) l.places;
}

abbrev pub decreases-loop-i : goal.decreases-loop-i
decreases-loop-i l = l.i
