use Rattle.std.proofs.Common.{◌≡◌, map, take}
use Rattle.over_module.specs.Raising.{behind_zeros}
use Rattle.over_module.proofs.rows.all_behind.Given as goal

abbrev pub invariant-loop-row : goal.invariant-loop-row
invariant-loop-row l = l.made ≡ map (behind_zeros l.zeros) (take l.row-index l.rows)
