use Rattle.std.proofs.Common.{take, All}
use Rattle.over_module.specs.Raising.{BeginsWithZeros}
use Rattle.over_module.proofs.lowering.all_begin_with_zeros.Given as goal

abbrev pub invariant-loop-row : goal.invariant-loop-row
invariant-loop-row l = All (BeginsWithZeros l.zeros) (take l.row-index l.rows)
