use Rattle.std.proofs.Common.{subst, arith}
use Rattle.digit_space.specs.Model.{IsDigitSpace}
use Rattle.digit_space.proofs.digits.Digits.preferred.Goals as goal

-- src/digits.rt:215:13
pub border_count-fewest-requires : goal.border_count-fewest-requires
border_count-fewest-requires c = let s = subst IsDigitSpace c.self.view_is c.self.invariant.0 in let some = s.fit.some_variables in omega arith
