use Rattle.std.proofs.Common.{take}
use Rattle.std.specs.Prelude.{All}
use Rattle.norm_text.specs.Ranges.{IsSizedPoint}
use Rattle.norm_text.specs.Shown.{point_of}
use Rattle.norm_text.proofs.reading.are_sized_points.Given as goal

abbrev pub invariant-loop-line : goal.invariant-loop-line
invariant-loop-line l = All (λ line. IsSizedPoint (point_of line)) (take l.line-index l.points)
