use Rattle.std.proofs.Common.{◌≡◌, map, take}
use Rattle.point_radical.proofs.radical.fronts.Given as goal

abbrev pub invariant-loop-row : goal.invariant-loop-row
invariant-loop-row l = l.made ≡ map (take l.width) (take l.row-index l.rows)
