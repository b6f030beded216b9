use Rattle.digit_make.specs.Rows.{IsBlockRow}
use Rattle.digit_make.proofs.Steps.{IsTail}
use Rattle.digit_make.proofs.blocks.put_product_block.Given as goal

abbrev pub invariant-loop-r : goal.invariant-loop-r
invariant-loop-r l = record {
  fits : IsBlockRow l.plan l.out;
  tail : IsTail l.plan l.v l.t l.r l.row l.out;
}
