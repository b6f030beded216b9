use Rattle.std.proofs.Common.{rules}
use Rattle.race_core.specs.Moves.{Allows}
use Rattle.race_core.specs.Parts.{state_of}
use Rattle.race_core.proofs.Kept.{core-room, next-core}
use Rattle.race_core.proofs.machine.step.Goals as goal

pub apply-requires-clause-room : goal.apply-requires-clause-room
apply-requires-clause-room c = core-room (state_of c.in_ok-parts.parts) (rw c.in_ok-parts.ensures c.core.invariant)

pub invariant_of-result : goal.invariant_of-result
invariant_of-result c =
    let allowed : Allows (state_of c.core.inside.parts) c.args.event = search rules in
    rw (c.in_ok-apply.ensures.ok, c.in_ok-parts.ensures) (next-core (state_of c.core.inside.parts) c.args.event c.core.invariant allowed)
