use Rattle.std.proofs.Common.{◌≡◌, length, All}
use Rattle.row_space.specs.Echelon.{IsRow}
use Rattle.row_matrices.proofs.inverses.inverse_rows.Given as goal

abbrev pub invariant-loop-k : goal.invariant-loop-k
invariant-loop-k l = record {
  count : length l.made ≡ l.k;
  rows : All (IsRow l.prime l.n) l.made;
}
