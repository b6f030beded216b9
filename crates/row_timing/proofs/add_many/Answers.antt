use Rattle.std.proofs.Common.{◌≡◌}
use Rattle.row_timing.proofs.add_many.Goals as goal

pub axpy-requires-clause-into : goal.axpy-requires-clause-into
axpy-requires-clause-into c = c.loop-c.invariant
