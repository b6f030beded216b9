use Rattle.std.proofs.Common.{◌≡◌, length}
use Rattle.lane_rows.specs.Rows.{AreResidues}
use Rattle.frobenius_split.proofs.idempotents.mixture.Given as goal

abbrev pub invariant-loop-place : goal.invariant-loop-place
invariant-loop-place l = record {
  long : length l.row ≡ l._place;
  residues : AreResidues l.p l.row;
}
