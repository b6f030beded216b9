use Rattle.digit_make.proofs.Steps.{block_sum}
use Rattle.digit_make.proofs.blocks.add_row_block.Goals as goal

pub returns-clause-sum : goal.returns-clause-sum
returns-clause-sum c = block_sum c.args.p c.args.c c.args.t c.args.out.now c.args.row.now c.axpy.new.into c.axpy.ensures.sum c.requires.made
