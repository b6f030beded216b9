use Rattle.std.proofs.Common.{◌*◌, All}
use Rattle.over_module.specs.Raising.{BeginsWithZeros}
use Rattle.over_module.proofs.lowering.zero_blocks.Given as goal

abbrev pub invariant-loop-blocks : goal.invariant-loop-blocks
invariant-loop-blocks l = All (BeginsWithZeros (l.corners * l.blocks)) l.rows
