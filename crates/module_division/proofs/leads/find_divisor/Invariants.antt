use Rattle.module_division.proofs.Steps.{NoneBelow}
use Rattle.module_division.proofs.leads.find_divisor.Given as goal

abbrev pub invariant-loop-i : goal.invariant-loop-i
invariant-loop-i l = NoneBelow l.divisors l.m l.i
