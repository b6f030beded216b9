use Rattle.std.proofs.Common.{◌≡◌, map, take, drop}
use Rattle.over_module.proofs.raising.all_without.Given as goal

abbrev pub invariant-loop-row : goal.invariant-loop-row
invariant-loop-row l = l.made ≡ map (drop l.entries) (take l.row-index l.rows)
