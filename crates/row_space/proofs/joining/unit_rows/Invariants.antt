use Rattle.std.proofs.Common.{◌≡◌, ℕ, ◌<◌, [], length, get_or, set, replicate}
use Rattle.row_space.proofs.joining.unit_rows.Given as goal

abbrev pub invariant-loop-i : goal.invariant-loop-i
invariant-loop-i l = record {
  long : length l.rows ≡ l.i;
  rows : (j : ℕ) → j < l.i → get_or l.rows j [] ≡ set (replicate l.count 0) j 1;
}
