use Rattle.std.proofs.Common.{◌≡◌, length}
use Rattle.lane_rows.specs.Rows.{AreResidues}
use Rattle.split_timing.proofs.opposites.Given as goal

abbrev pub invariant-loop-c : goal.invariant-loop-c
invariant-loop-c l = record {
  residues : AreResidues l.fn.prime l.row;
  long : length l.row ≡ l.c-index;
}
