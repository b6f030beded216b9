use Rattle.std.proofs.Common.{◌≡◌, ℕ, ◌+◌, ◌%◌, ◌<◌, length, get_or, take}
use Rattle.lane_rows.specs.Rows.{AreResidues}
use Rattle.row_space.specs.Sums.{weighted}
use Rattle.row_space.specs.Echelon.{entries_at}
use Rattle.row_space.proofs.elimination.reduce_by.Given as goal

abbrev pub invariant-loop-i : goal.invariant-loop-i
invariant-loop-i l = record {
  residues : AreResidues l.p l.row;
  sum : (k : ℕ) → k < length l.fn.row → (get_or l.row k 0 + weighted (take l.i (entries_at l.pivots l.fn.row)) (take l.i l.rows) k) % l.p ≡ get_or l.fn.row k 0;
}
