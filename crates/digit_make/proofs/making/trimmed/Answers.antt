use Rattle.digit_make.proofs.Made.{zeros_behind}
use Rattle.digit_make.proofs.making.trimmed.Goals as goal

pub returns-clause-zeros : goal.returns-clause-zeros
returns-clause-zeros c =
    zeros_behind c.loop-end.end c.args.row.now c.in_ok-made.made c.loop-end.invariant.within c.loop-end.invariant.zeros c.in_ok-made.ensures
