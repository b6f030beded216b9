use Rattle.std.proofs.Common.{◌≡◌, [], replicate}
use Rattle.digit_make.proofs.making.empty_rows.Given as goal

abbrev pub invariant-loop-i : goal.invariant-loop-i
invariant-loop-i l = l.rows ≡ replicate l.i []
