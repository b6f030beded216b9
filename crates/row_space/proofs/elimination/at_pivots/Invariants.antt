use Rattle.std.proofs.Common.{◌≡◌, take}
use Rattle.row_space.specs.Echelon.{entries_at}
use Rattle.row_space.proofs.elimination.at_pivots.Given as goal

abbrev pub invariant-loop-pivot : goal.invariant-loop-pivot
invariant-loop-pivot l = l.residues ≡ entries_at (take l.pivot-index l.pivots) l.row
