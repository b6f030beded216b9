-- The laws of the race machine.
use Rattle.std.specs.Prelude.{ℕ, ◌≡◌, ◌+◌, ◌*◌, ◌<◌, ◌≤◌, ◌==◌, ◌&&◌, min, Bool, true, false, List, count_by}
use Rattle.race_core.specs.State.{State, initial, IsShaped, IsSeat, tickets, word, drawn_list, won_list, times}
use Rattle.race_core.specs.Moves.{Allows, next}
use Rattle.race_core.specs.Sound.{Sound, drawn_total, spent_total}
use Rattle.race_core.specs.Runs.{after, AllowsAll, IsRefused}
use Rattle.race_core.specs.Tickets.{ticket_stratum, ticket_kind}
use Rattle.race_core.specs.declared.event.Event.{Event}
use Rattle.race_core.specs.declared.event.Event.TheVariants.{Draw, Win, Join}

-- a state that allowed events reach from the start
pub record IsReached (strata seats : ℕ) (events : List Event) (c : State) : Type 0 where
  pub allowed : AllowsAll (initial strata seats) events
  pub state : c ≡ after (initial strata seats) events

abbrev pub is_draw : Event → Bool
is_draw (Draw s) = true
is_draw _ = false

-- a win of the stratum by the seat
abbrev pub is_win : ℕ → ℕ → Event → Bool
is_win i s (Win t j) = j == i && t == s
is_win i s _ = false

-- a join of the stratum by the seat
abbrev pub is_join : ℕ → ℕ → Event → Bool
is_join i s (Join t j) = j == i && t == s
is_join i s _ = false

-- a join of the stratum by any seat
abbrev pub is_join_of : ℕ → Event → Bool
is_join_of i (Join t j) = j == i
is_join_of i _ = false

-- the first state is sound
abbrev pub StartIsSound : Type 0
StartIsSound = (strata seats : ℕ) → IsShaped (initial strata seats) × Sound (initial strata seats)

-- an allowed event keeps a state sound
abbrev pub SoundnessIsKept : Type 0
SoundnessIsKept = (c : State) (e : Event) → IsShaped c → Sound c → Allows c e → IsShaped (next c e) × Sound (next c e)

-- in a sound state all tickets below the count are drawn, and the count is bounded
abbrev pub SoundStatesAccount : Type 0
SoundStatesAccount = (c : State) → IsShaped c → Sound c → (drawn_total c ≡ min c.count (tickets c)) × (c.count ≤ tickets c + c.seats)

-- every list of allowed events reaches a sound state, with as many strata and seats as at the start
abbrev pub ReachedStatesAreSound : Type 0
ReachedStatesAreSound = (strata seats : ℕ) (events : List Event) (c : State) → IsReached strata seats events c → Sound c × (c.strata ≡ strata) × (c.seats ≡ seats)

-- no stratum is joined twice
abbrev pub NoStratumIsJoinedTwice : Type 0
NoStratumIsJoinedTwice = (strata seats : ℕ) (events : List Event) (c : State) → IsReached strata seats events c → (i : ℕ) → count_by (is_join_of i) events ≤ 1

-- each joined stratum was won, once, by the seat that joined it, which keeps it
abbrev pub JoinedStrataWereWon : Type 0
JoinedStrataWereWon = (strata seats : ℕ) (events : List Event) (c : State) → IsReached strata seats events c → (i s : ℕ)
    → 0 < count_by (is_join i s) events → (count_by (is_win i s) events ≡ 1) × (times i (won_list c s) ≡ 1) × (word c i ≡ s)

-- each ticket below the count is drawn by exactly one seat, and no seat draws another number
abbrev pub EachTicketIsDrawnByOneSeat : Type 0
EachTicketIsDrawnByOneSeat = (strata seats : ℕ) (events : List Event) (c : State) → IsReached strata seats events c
    → ((t : ℕ) → t < min c.count (tickets c) → (s : ℕ) × IsSeat c s × (times t (drawn_list c s) ≡ 1))
    × ((t s u : ℕ) → IsSeat c s → IsSeat c u → 0 < times t (drawn_list c s) → 0 < times t (drawn_list c u) → (s ≡ u) × (t < min c.count (tickets c)))

-- the count is that of the draws; all tickets below it are drawn, and it is these with the seats told spent
abbrev pub DrawsAreAccounted : Type 0
DrawsAreAccounted = (strata seats : ℕ) (events : List Event) (c : State) → IsReached strata seats events c
    → (c.count ≡ count_by is_draw events) × (drawn_total c ≡ min c.count (tickets c)) × (c.count ≡ drawn_total c + spent_total c) × (c.count ≤ tickets c + seats)

-- no list of events is both allowed and refused
abbrev pub AllowedListsAreNotRefused : Type 0
AllowedListsAreNotRefused = (c : State) (events : List Event) → AllowsAll c events → ¬ IsRefused c events

-- tickets below twice the strata and pairs of a stratum and a kind 0 or 1 name one another
pub record TicketNames (strata : ℕ) : Type 0 where
  pub named : (t : ℕ) → t < 2 * strata → (1 ≤ ticket_stratum strata t) × (ticket_stratum strata t ≤ strata) × (ticket_kind strata t < 2)
  pub ticket : (i k : ℕ) → i < strata → k < 2 → (k * strata + i < 2 * strata) × (ticket_stratum strata (k * strata + i) ≡ i + 1) × (ticket_kind strata (k * strata + i) ≡ k)
  pub one : (t u : ℕ) → 0 < strata → ticket_stratum strata t ≡ ticket_stratum strata u → ticket_kind strata t ≡ ticket_kind strata u → t ≡ u
