-- The points so far.
use Rattle.std.proofs.Common.{take}
use Rattle.std.specs.List.{All}
use Rattle.named_points.specs.Naming.{HasKnownTerms}
use Rattle.named_points.proofs.telling.know_points.Given as goal

abbrev pub invariant-loop-point : goal.invariant-loop-point
invariant-loop-point l = All HasKnownTerms (take l.point-index l.points)
