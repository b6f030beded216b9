-- What holds of every state that allowed events reach.
use Rattle.std.specs.Prelude.{ℕ, ◌≡◌, ◌+◌, ◌<◌, ◌≤◌, ◌==◌, ◌&&◌, nat_le, nat_lt, min, Bool, IsTrue, length, All, sum_by, count_by}
use Rattle.race_core.specs.declared.machine.TheConstants.{MAX_SEATS, MAX_STRATA}
use Rattle.race_core.specs.State.{State, IsSeat, IsStratum, IsShaped, tickets, word, won_list, is_told_spent, times, times_joined, one_if}

-- each word is 0 or a seat's number
abbrev pub WordsNameSeats : State → Type 0
WordsNameSeats c = All (λ w. w ≤ c.seats) c.words

-- the test whether the word of stratum i is s
abbrev pub is_word : State → ℕ → ℕ → Bool
is_word c i s = nat_le 1 i && nat_le i c.strata && word c i == s

-- a seat's won list has a stratum once where the word is the seat, and else not at all
abbrev pub WonListsAreWords : State → Type 0
WonListsAreWords c = (s i : ℕ) → IsSeat c s → times i (won_list c s) ≡ one_if (is_word c i s)

-- the drawn lists together have each number below the count and the number of tickets once, and nothing else
abbrev pub TicketsAreDrawnOnce : State → Type 0
TicketsAreDrawnOnce c = (t : ℕ) → sum_by (λ list. times t list) c.drawn ≡ one_if (nat_lt t (min c.count (tickets c)))

-- how many tickets were drawn
abbrev pub drawn_total : State → ℕ
drawn_total c = sum_by (λ list. length list) c.drawn

-- how many seats were told that the tickets are spent
abbrev pub spent_total : State → ℕ
spent_total c = count_by (λ told. told) c.spent

-- each draw step drew a ticket or told a seat, and told one only past the last ticket
pub record StepsAreCounted (c : State) : Type 0 where
  pub total : c.count ≡ drawn_total c + spent_total c
  pub late : (s : ℕ) → IsSeat c s → IsTrue (is_told_spent c s) → tickets c < c.count

-- the joined list has each stratum at most once, and a pair only where the word is the pair's seat
pub record JoinsWereWon (c : State) : Type 0 where
  pub once : (i : ℕ) → times_joined c i ≤ 1
  pub won : All (λ p. IsStratum c p.0 × IsSeat c p.1 × (word c p.0 ≡ p.1)) c.joined

-- the five facts of a state that was reached
pub record Sound (c : State) : Type 0 where
  pub words : WordsNameSeats c
  pub won : WonListsAreWords c
  pub drawn : TicketsAreDrawnOnce c
  pub count : StepsAreCounted c
  pub joined : JoinsWereWon c

-- what a core keeps: its limits, its shape and the five facts
pub record IsRaceState (c : State) : Type 0 where
  pub few_strata : c.strata ≤ MAX_STRATA
  pub some_seat : 1 ≤ c.seats
  pub few_seats : c.seats ≤ MAX_SEATS
  pub shaped : IsShaped c
  pub sound : Sound c
