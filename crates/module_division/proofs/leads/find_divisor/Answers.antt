use Rattle.std.proofs.Common.{arith}
use Rattle.module_division.proofs.Steps.{none_divides}
use Rattle.module_division.proofs.leads.find_divisor.Goals as goal

pub returns : goal.returns
returns c = none_divides c.args.divisors.now c.args.m.now (λ k h. c.loop-i.invariant k (omega arith))
