use Rattle.std.proofs.Common.{◌≡◌, ℕ, suc, ◌+◌, ◌<◌, [], length, get_or, All}
use Rattle.row_space.specs.Echelon.{IsRow}
use Rattle.finite_algebra.specs.Elements.{unit_row}
use Rattle.split_timing.proofs.quotients.step.Given as goal

abbrev pub invariant-loop-k : goal.invariant-loop-k
invariant-loop-k l = record {
  count : length l.rows + 1 ≡ l.k;
  rows : All (IsRow l.fn.prime (length l.r)) l.rows;
  next : (j : ℕ) → suc j < l.k → get_or l.rows j [] ≡ unit_row (length l.r) (suc j);
}
