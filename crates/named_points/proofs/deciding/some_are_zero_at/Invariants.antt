-- None of the statements so far has the value 0 throughout.
use Rattle.std.proofs.Common.{take}
use Rattle.std.specs.List.{All, Any}
use Rattle.named_points.specs.Deciding.{IsZeroAt}
use Rattle.named_points.proofs.deciding.some_are_zero_at.Given as goal

abbrev pub invariant-loop-rows : goal.invariant-loop-rows
invariant-loop-rows l = Any (All (IsZeroAt l.digits l.local)) (take l.rows-index l.statements) → ⊥
