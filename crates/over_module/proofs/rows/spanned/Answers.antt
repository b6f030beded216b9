use Rattle.over_module.proofs.ZeroRows.{joined_space}
use Rattle.over_module.proofs.rows.spanned.Goals as goal

pub returns : goal.returns
returns c = joined_space c.args.prime c.args.width c.args.rows.now c.new-space.result c.add_rows.new.self c.new-space.ensures c.in_ok-add_rows.ensures c.rows-basis.ensures.reduced
