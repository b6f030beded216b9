use Rattle.std.proofs.Common.{◌≡◌, ◌-◌, ◌++◌, map, take, length, replicate}
use Rattle.point_quotient.proofs.fronts.all_filled.Given as goal

abbrev pub invariant-loop-row : goal.invariant-loop-row
invariant-loop-row l = l.made ≡ map (λ row. row ++ replicate (l.width - length row) 0) (take l.row-index l.rows)
