-- The atomic steps of a table are the events of the race machine.
use Rattle.std.specs.Prelude.{ℕ, ◌≡◌, ◌≢◌, ◌+◌, ◌<◌, ◌≤◌, ◌==◌, false, List, [], ◌∷◌, ◌++◌, slice_index, slice_set, if◌then◌else◌}
use mathlib.Core.Option.{some}
use lib.ListN.{get_elem?}
use Rattle.race_core.specs.State.{State}
use Rattle.race_core.specs.Moves.{Allows, next}
use Rattle.race_core.specs.declared.event.Event.{Event}
use Rattle.race_core.specs.declared.event.Event.TheVariants.{Draw, LookOpen, LookTaken, Win, Lose}
use Rattle.race_table.specs.Views.{was_told, drew, looked, tried, front, back, united, nobody}
use Rattle.race_table.specs.Rule.{Held, state_of}
use Rattle.race_table.specs.declared.view.View.{View}

-- the event leads from the one state to the other
pub record Leads (e : Event) (before later : State) : Type 0 where
  pub allowed : Allows before e
  pub state : later ≡ next before e

-- the event of a look of seat s at stratum i that found n
abbrev pub look_event : ℕ → ℕ → ℕ → Event
look_event s i n = if n == 0 then LookOpen s i else LookTaken s i n

-- the event of a try of seat s to win stratum i that found n
abbrev pub win_event : ℕ → ℕ → ℕ → Event
win_event s i n = if n == 0 then Win s i else Lose s i n

-- the view stands at its place among views that meet the rule, and has a number
pub record Stands (strata seats : ℕ) (words : List ℕ) (views : List View) (id : ℕ) (v : View) : Type 0 where
  pub held : Held strata seats words views
  pub place : get_elem? views id ≡ some v
  pub part : 0 < v.parts

-- each kind of step on the words and on its views is its event, or none
pub record StepsAreEvents (strata seats : ℕ) (words : List ℕ) (views : List View) (id : ℕ) (v : View) : Type 0 where
  pub draw : was_told v ≡ false
      → Leads (Draw v.first) (state_of strata seats words views) (state_of strata seats (slice_set words 0 (slice_index words 0 + 1)) (slice_set views id (drew v (slice_index words 0))))
  pub look : (i : ℕ) → 1 ≤ i → i ≤ strata
      → Leads (look_event v.first i (slice_index words i)) (state_of strata seats words views) (state_of strata seats words (slice_set views id (looked v i (slice_index words i))))
  pub win : (i : ℕ) → 1 ≤ i → i ≤ strata
      → Leads (win_event v.first i (slice_index words i)) (state_of strata seats words views)
      (state_of strata seats (slice_set words i (if slice_index words i == 0 then v.first else slice_index words i)) (slice_set views id (tried v i (slice_index words i))))
  pub split : state_of strata seats words (slice_set views id (front v) ++ back v ∷ []) ≡ state_of strata seats words views
  pub unite : (other : ℕ) (w : View) → other ≢ id → get_elem? views other ≡ some w
      → state_of strata seats words (slice_set (slice_set views id (united v w)) other nobody) ≡ state_of strata seats words views

abbrev pub TableStepsAreEvents : Type 0
TableStepsAreEvents = (strata seats : ℕ) (words : List ℕ) (views : List View) (id : ℕ) (v : View) → Stands strata seats words views id v → StepsAreEvents strata seats words views id v
