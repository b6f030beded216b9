use Rattle.std.specs.List.{All}
use Rattle.module_basis.specs.Gens.{IsHomogeneousOver}
use Rattle.basis_timing.proofs.vectors.Given as goal

abbrev pub invariant-loop : goal.invariant-loop
invariant-loop l = All (IsHomogeneousOver l.p l.variables l.shift) l.all
