use Rattle.digit_space.proofs.Entries.{front_added}
use Rattle.digit_space.proofs.multiplying.add_multiple.Goals as goal

pub returns-clause-entries : goal.returns-clause-entries
returns-clause-entries c =
    front_added c.args.p c.args.c c.min-reach.result c.args.out.now c.axpy.new.into c.args.row.now c.requires.out c.min-reach.ensures c.axpy.ensures.sum
