use Rattle.std.proofs.Common.{◌≡◌, ℕ, [], ◌+◌, ◌-◌, ◌*◌, ◌%◌, ◌<◌, ◌≤◌, length, get_or}
use Rattle.row_space.specs.Sums.{entry}
use Rattle.row_space.specs.Echelon.{IsRow}
use Rattle.row_space.proofs.elimination.clear_column.Given as goal

abbrev pub invariant-loop-i : goal.invariant-loop-i
invariant-loop-i l = record {
  rows : (j : ℕ) → j < length l.fn.rows → IsRow l.p (length l.row) (get_or l.rows j []);
  done : (j k : ℕ) → j < l.i → k < length l.row → entry l.rows j k ≡ (entry l.fn.rows j k + (l.p - entry l.fn.rows j l.pivot) * get_or l.row k 0) % l.p;
  kept : (j : ℕ) → l.i ≤ j → get_or l.rows j [] ≡ get_or l.fn.rows j [];
}
