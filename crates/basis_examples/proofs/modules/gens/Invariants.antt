use Rattle.std.proofs.Common.{take}
use Rattle.std.specs.List.{All}
use Rattle.module_basis.specs.Gens.{IsHomogeneousOver}
use Rattle.basis_examples.proofs.modules.gens.Given as goal

abbrev pub invariant-loop-k : goal.invariant-loop-k
invariant-loop-k l = All (IsHomogeneousOver l.p 6 l.shift) (take l.k l.fs)
