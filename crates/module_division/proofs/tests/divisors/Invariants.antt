use Rattle.std.specs.List.{All}
use Rattle.module_division.specs.Division.{IsDivisor}
use Rattle.module_division.proofs.tests.divisors.Given as goal

abbrev pub invariant-loop-row : goal.invariant-loop-row
invariant-loop-row l = All (IsDivisor l.p) l.fs
