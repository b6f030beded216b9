use Rattle.std.proofs.Common.{◌≤◌}
use Rattle.digit_space.proofs.digits.Digits.border_count.Given as goal

abbrev pub invariant-loop-i : goal.invariant-loop-i
invariant-loop-i l = l.count ≤ l.i
