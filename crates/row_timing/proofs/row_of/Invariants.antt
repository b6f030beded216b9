use Rattle.std.proofs.Common.{◌≡◌, length}
use Rattle.lane_rows.specs.Rows.{AreResidues}
use Rattle.row_timing.proofs.row_of.Given as goal

abbrev pub invariant-loop-place : goal.invariant-loop-place
invariant-loop-place l = record {
  long : length l.row.items ≡ l._place;
  residues : AreResidues l.p l.row.items;
}
