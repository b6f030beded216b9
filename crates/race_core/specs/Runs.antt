-- Lists of events.
use Rattle.std.specs.Prelude.{◌≡◌, List, [], ◌∷◌, ◌++◌, Option, Some, None}
use Rattle.race_core.specs.State.{State}
use Rattle.race_core.specs.Moves.{Allows, next}
use Rattle.race_core.specs.Sound.{Sound}
use Rattle.race_core.specs.declared.event.Event.{Event}

-- the state after all events, in order
abbrev pub after : State → List Event → State
after c [] = c
after c (e ∷ es) = after (next c e) es

-- each event is allowed in the state that those before it reach
abbrev pub AllowsAll : State → List Event → Type 0
AllowsAll c [] = Unit {0}
AllowsAll c (e ∷ es) = Allows c e × AllowsAll (next c e) es

-- an event that is not allowed in the state that those before it reach
pub record IsRefused (c : State) (events : List Event) : Type 0 where
  pub before : List Event
  pub event : Event
  pub rest : List Event
  pub place : events ≡ before ++ event ∷ rest
  pub reached : AllowsAll c before
  pub refused : ¬ Allows (after c before) event

-- the answer of one step: the next state where the event is allowed, else none
abbrev pub IsStep : State → Event → Option State → Type 0
IsStep c e None = ¬ Allows c e
IsStep c e (Some d) = Allows c e × (d ≡ next c e)

-- the answer of a replay: the state after all events where each is allowed in turn, else none
abbrev pub IsReplay : State → List Event → Option State → Type 0
IsReplay c es None = IsRefused c es
IsReplay c es (Some d) = AllowsAll c es × (d ≡ after c es) × Sound d
