use Rattle.lane_rows.specs.Rows.{AreResidues}
use Rattle.row_timing.proofs.add_many.Given as goal

abbrev pub invariant-loop-c : goal.invariant-loop-c
invariant-loop-c l = AreResidues l.p l.into
