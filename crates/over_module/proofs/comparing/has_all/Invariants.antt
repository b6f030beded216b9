use Rattle.std.proofs.Common.{take, All}
use Rattle.row_space.specs.Subspace.{IsIn}
use Rattle.over_module.proofs.comparing.has_all.Given as goal

abbrev pub invariant-loop-row : goal.invariant-loop-row
invariant-loop-row l = All (IsIn l.space) (take l.row-index l.rows)
