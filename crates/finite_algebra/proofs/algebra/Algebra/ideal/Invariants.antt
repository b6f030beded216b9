use Rattle.std.proofs.Common.{take}
use Rattle.finite_algebra.specs.Projections.{IsGeneratedBy}
use Rattle.finite_algebra.proofs.algebra.Algebra.ideal.Given as goal

abbrev pub invariant-loop-i : goal.invariant-loop-i
invariant-loop-i l = IsGeneratedBy l.self (take l.i l.generators) l.space
