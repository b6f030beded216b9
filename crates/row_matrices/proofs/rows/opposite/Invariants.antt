use Rattle.std.proofs.Common.{◌≡◌, ◌-◌, ◌%◌, map, take}
use Rattle.lane_rows.specs.Rows.{AreResidues}
use Rattle.row_matrices.proofs.rows.opposite.Given as goal

abbrev pub invariant-loop-i : goal.invariant-loop-i
invariant-loop-i l = record {
  made : l.made ≡ map (λ x. (l.prime - x) % l.prime) (take l.i l.row);
  residues : AreResidues l.prime l.made;
}
