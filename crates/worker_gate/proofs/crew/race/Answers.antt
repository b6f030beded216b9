-- Strata that nobody won.
use Rattle.worker_gate.proofs.Unwon.{unwon_law}
use Rattle.worker_gate.proofs.crew.race.Goals as goal

pub returns-clause-unwon : goal.returns-clause-unwon
returns-clause-unwon g c = rw c.of_vec.ensures (unwon_law _ _ _ _ c.gather-reports.ensures.raced)
