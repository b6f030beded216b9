use Rattle.std.proofs.Common.{◌≡◌, take}
use Rattle.strata_work.proofs.copies.copies_of_points.Given as goal

-- the first points are copied
abbrev pub invariant-loop-point : goal.invariant-loop-point
invariant-loop-point l = l.copies ≡ take l.point-index l.points
