-- What one event needs, and what it changes.
use Rattle.std.specs.Prelude.{ℕ, ◌≡◌, ◌≢◌, ◌+◌, ◌-◌, true, false, List, [], ◌∷◌, ◌++◌, slice_index_or, slice_set, nat_lt, if◌then◌else◌}
use Rattle.race_core.specs.State.{State, IsSeat, IsStratum, tickets, word, is_told_spent, times_joined}
use Rattle.race_core.specs.declared.event.Event.{Event}
use Rattle.race_core.specs.declared.event.Event.TheVariants.{Draw, LookOpen, LookTaken, Win, Lose, Join}

-- the event may happen in the state
abbrev pub Allows : State → Event → Type 0
Allows c (Draw s) = IsSeat c s × (is_told_spent c s ≡ false)
Allows c (LookOpen s i) = IsSeat c s × IsStratum c i × (word c i ≡ 0)
Allows c (LookTaken s i by) = IsSeat c s × IsStratum c i × (word c i ≡ by) × (by ≢ 0)
Allows c (Win s i) = IsSeat c s × IsStratum c i × (word c i ≡ 0)
Allows c (Lose s i by) = IsSeat c s × IsStratum c i × (word c i ≡ by) × (by ≢ 0)
Allows c (Join s i) = IsSeat c s × IsStratum c i × (word c i ≡ s) × (times_joined c i ≡ 0)

-- the lists, with the item at the end of that of the seat
abbrev pub added : List (List ℕ) → ℕ → ℕ → List (List ℕ)
added lists s x = slice_set lists (s - 1) (slice_index_or lists (s - 1) [] ++ x ∷ [])

-- the state after the seat drew the next ticket
abbrev pub drew : State → ℕ → State
drew c s = record c { count = c.count + 1; drawn = added c.drawn s c.count }

-- the state after the seat was told that the tickets are spent
abbrev pub told_spent : State → ℕ → State
told_spent c s = record c { count = c.count + 1; spent = slice_set c.spent (s - 1) true }

-- the state after the event
abbrev pub next : State → Event → State
next c (Draw s) = if nat_lt c.count (tickets c) then drew c s else told_spent c s
next c (LookOpen s i) = c
next c (LookTaken s i by) = c
next c (Win s i) = record c { words = slice_set c.words (i - 1) s; won = added c.won s i }
next c (Lose s i by) = c
next c (Join s i) = record c { joined = c.joined ++ (i, s) ∷ [] }
