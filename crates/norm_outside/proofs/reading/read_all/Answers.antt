use Rattle.std.proofs.Common.{◌++◌, take, arith, length-append}
use Rattle.std.proofs.lemmas.Grind.{common_steps}
use Rattle.norm_outside.proofs.Joined.{Consumes-then}
use Rattle.norm_outside.proofs.reading.read_all.Goals as goal

pub returns-then-limit-len-clause-too_long : goal.returns-then-limit-len-clause-too_long
returns-then-limit-len-clause-too_long g c _ = (
  c.loop.bytes.items ++ take c.in-Ok.count c.read.new.buf,
  Consumes-then _ _ _ _ _ c.loop.invariant.gave c.in-Ok.ensures.bytes.0,
  grind (arith, common_steps, length-append, c.in-Ok.ensures.bound.1),
)

pub returns-then-is_err-clause-within : goal.returns-then-is_err-clause-within
returns-then-is_err-clause-within g c _ = (
  c.loop.bytes.items ++ take c.in-Ok.count c.read.new.buf,
  Consumes-then _ _ _ _ _ c.loop.invariant.gave c.in-Ok.ensures.bytes.0,
  grind (arith, common_steps, length-append, c.in-Ok.ensures.bound.1),
)
