use Rattle.std.proofs.Common.{◌<◌}
use Rattle.digit_space.proofs.digits.Digits.preferred.Given as goal

abbrev pub invariant-loop-v : goal.invariant-loop-v
invariant-loop-v l = l.best < l.variables
