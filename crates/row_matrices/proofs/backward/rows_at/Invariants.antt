use Rattle.std.proofs.Common.{◌≡◌, ◌<◌, ℕ, [], length, get_or}
use Rattle.row_matrices.proofs.backward.rows_at.Given as goal

abbrev pub invariant-loop-t : goal.invariant-loop-t
invariant-loop-t l = record {
  count : length l.made ≡ l.t;
  rows : (s : ℕ) → s < l.t → get_or l.made s [] ≡ get_or l.rows (get_or l.places s 0) [];
}
