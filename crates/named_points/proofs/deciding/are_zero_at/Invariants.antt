-- The rows so far have the value 0.
use Rattle.std.proofs.Common.{take}
use Rattle.std.specs.List.{All}
use Rattle.named_points.specs.Deciding.{IsZeroAt}
use Rattle.named_points.proofs.deciding.are_zero_at.Given as goal

abbrev pub invariant-loop-row : goal.invariant-loop-row
invariant-loop-row l = All (IsZeroAt l.digits l.local) (take l.row-index l.rows)
