use Rattle.std.proofs.Common.{◌≡◌, ◌++◌, map, take}
use Rattle.corner_basis.proofs.staircase.add_fronts.Given as goal

abbrev pub invariant-loop-row : goal.invariant-loop-row
invariant-loop-row l = l.matrix ≡ l.fn.matrix ++ map (take l.entries) (take l.row-index l.rows)
