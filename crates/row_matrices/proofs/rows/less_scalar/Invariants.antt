use Rattle.std.proofs.Common.{◌≡◌, ℕ, ◌+◌, ◌-◌, ◌%◌, ◌<◌, length, get_or, set, [], All}
use Rattle.row_space.specs.Echelon.{IsRow}
use Rattle.row_matrices.proofs.rows.less_scalar.Given as goal

abbrev pub invariant-loop-k : goal.invariant-loop-k
invariant-loop-k l = record {
  long : length l.rows ≡ l.k;
  rows : All (IsRow l.prime (length l.matrix)) l.rows;
  entries : (j : ℕ) → j < l.k → get_or l.rows j [] ≡ set (get_or l.matrix j []) j ((get_or (get_or l.matrix j []) j 0 + (l.prime - l.c)) % l.prime);
}
