use Rattle.std.proofs.Common.{◌≡◌, take}
use Rattle.frobenius_split.proofs.frames.copies.Given as goal

abbrev pub invariant-loop-i : goal.invariant-loop-i
invariant-loop-i l = l.made ≡ take l.i l.rows
