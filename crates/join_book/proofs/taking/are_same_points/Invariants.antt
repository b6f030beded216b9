use Rattle.std.proofs.Common.{◌≡◌, take}
use Rattle.join_book.proofs.taking.are_same_points.Given as goal

-- the first i points are equal
abbrev pub invariant-loop-i : goal.invariant-loop-i
invariant-loop-i l = take l.i l.a ≡ take l.i l.b
