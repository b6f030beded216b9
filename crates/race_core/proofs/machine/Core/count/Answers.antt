use Rattle.race_core.specs.Parts.{state_of}
use Rattle.race_core.proofs.Kept.{count-bound}
use Rattle.race_core.proofs.machine.Core.count.Goals as goal

pub returns-clause-bound : goal.returns-clause-bound
returns-clause-bound c =
    rw (← c.self.view_is) (count-bound (state_of c.self.inside.parts) c.self.invariant.shaped c.self.invariant.sound)
