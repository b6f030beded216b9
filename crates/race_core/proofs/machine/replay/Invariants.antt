use Rattle.std.proofs.Common.{◌≡◌, take}
use Rattle.race_core.specs.State.{initial, HasSizes}
use Rattle.race_core.specs.Runs.{after, AllowsAll}
use Rattle.race_core.specs.Parts.{state_of}
use Rattle.race_core.specs.Sound.{IsRaceState}
use Rattle.race_core.proofs.machine.replay.Given as goal

-- the events so far were allowed, and reached the state
abbrev pub invariant-loop-event : goal.invariant-loop-event
invariant-loop-event l = record {
  allowed : AllowsAll (initial l.strata l.seats) (take l.event-index l.events);
  state : state_of l.parts ≡ after (initial l.strata l.seats) (take l.event-index l.events);
  core : IsRaceState (state_of l.parts);
  sizes : HasSizes l.strata l.seats (state_of l.parts);
}
