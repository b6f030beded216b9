use Rattle.std.proofs.Common.{◌≡◌, ℕ, ◌<◌, [], length, get_or, All}
use Rattle.row_space.specs.Echelon.{IsRow}
use Rattle.finite_algebra.specs.Elements.{unit_row}
use Rattle.split_timing.proofs.quotients.basis.Given as goal

abbrev pub invariant-loop-k : goal.invariant-loop-k
invariant-loop-k l = record {
  count : length l.powers ≡ l.k;
  rows : All (IsRow l.fn.prime l.n) l.powers;
  first : (j : ℕ) → j < l.k → get_or l.powers j [] ≡ unit_row l.n j;
}
