-- What a call tells its pass.
use Rattle.std.specs.Prelude.{ℕ, ◌≡◌, ◌≢◌, ◌+◌, ◌*◌, ◌<◌, ◌≤◌, nat_lt, min, Bool, IsTrue, ◌==◌, ◌-◌, List, [], length, map, filter, count_by, slice_index}
use Rattle.race_core.specs.State.{State, one_if}
use Rattle.race_core.specs.Sound.{Sound}
use Rattle.std.specs.List.{range_with_len}
use Rattle.race_table.specs.Views.{InRange, of_seat, HasAll, was_told, times_ticket, times_pair, times_stratum, with_ticket, with_spent, with_won, with_told}
use Rattle.race_table.specs.declared.view.View.{View}
use Rattle.race_table.specs.declared.claim.Ticket.{Ticket}
use Rattle.race_table.specs.declared.claim.Ticket.TheVariants.{Number, Spent}
use Rattle.race_table.specs.declared.claim.Look.{Look}
use Rattle.race_table.specs.declared.claim.Look.TheVariants.{Open, Taken}
use Rattle.race_table.specs.declared.claim.Win.{Win}
use Rattle.race_table.specs.declared.claim.Win.TheVariants.{Won, Lost}

-- seat s has won the stratum i: it is a number of the table, and where it is the pass's own the pass knows of it
pub record IsTakenBy (v : View) (i s : ℕ) : Type 0 where
  pub some_seat : 1 ≤ s
  pub a_seat : s ≤ v.seats
  pub own : InRange v s → 0 < times_pair i s v.won

-- no seat has won the stratum i, so the pass knows of none
pub record IsOpen (v : View) (i : ℕ) : Type 0 where
  pub told : times_stratum i v.told ≡ 0
  pub won : times_stratum i v.won ≡ 0

-- what the number n in the word of i tells
pub record Tells (v : View) (i n : ℕ) : Type 0 where
  pub free : n ≡ 0 → IsOpen v i
  pub taken : n ≢ 0 → IsTakenBy v i n

-- the pass has not drawn the ticket n, if there is one of this number
abbrev pub IsFresh : View → ℕ → Type 0
IsFresh v n = n < 2 * v.strata → times_ticket n v.drawn ≡ 0

-- a draw
abbrev pub IsTicket : View → Ticket → View → Type 0
IsTicket v (Number t) w = (t < 2 * v.strata) × (w ≡ with_ticket v t) × (times_ticket t v.drawn ≡ 0)
IsTicket v Spent w = w ≡ with_spent v

-- a look at the stratum i
abbrev pub IsLook : View → ℕ → Look → View → Type 0
IsLook v i (Open look) w = (look ≡ i) × (w ≡ v) × IsOpen v i
IsLook v i (Taken s) w = (w ≡ with_told v i s) × IsTakenBy v i s

-- a try to win the stratum i
abbrev pub IsWin : View → ℕ → Win → View → Type 0
IsWin v i (Won won) w = (won ≡ (i, v.first)) × (w ≡ with_won v i) × IsOpen v i
IsWin v i (Lost s) w = (w ≡ with_told v i s) × IsTakenBy v i s

-- whether the seat was told that the tickets are spent, by one view
abbrev pub is_told_in : View → ℕ → Bool
is_told_in v s = nat_lt 0 (length (filter (λ t. t == s) v.spent))

-- the state of the race machine that the lists of a view with all numbers, a count and words are
abbrev pub pass_state : ℕ → ℕ → View → ℕ → List ℕ → State
pass_state strata seats v count words = record {
  strata = strata;
  seats = seats;
  count = count;
  words = words;
  drawn = map (λ s. of_seat s v.drawn) (range_with_len 1 seats);
  won = map (λ s. of_seat s v.won) (range_with_len 1 seats);
  spent = map (is_told_in v) (range_with_len 1 seats);
  joined = [];
}

-- what the end of a race shows, with this many draw steps in total and these words of the strata
pub record IsClosed (v : View) (total : ℕ) (words : List ℕ) : Type 0 where
  pub sound : Sound (pass_state v.strata v.seats v total words)
  -- the drawn list has each ticket below the total once, and nothing else
  pub drawn : (t : ℕ) → times_ticket t v.drawn ≡ one_if (nat_lt t (min total (2 * v.strata)))
  -- each draw step drew a ticket or told a seat
  pub count : total ≡ length v.drawn + count_by (is_told_in v) (range_with_len 1 v.seats)
  -- the word of a stratum is the seat whose pair is in the won list
  pub won : (i s : ℕ) → 1 ≤ i → i ≤ v.strata → s ≢ 0 → times_pair i s v.won ≡ one_if (slice_index words (i - 1) == s)

-- what a pass knows of its won strata and, with all numbers, of the table
pub record Knows (v : View) : Type 0 where
  pub won_once : (i : ℕ) → times_stratum i v.won ≤ 1
  pub told_won : HasAll v → (i s : ℕ) → 0 < times_pair i s v.told → 0 < times_pair i s v.won
  pub all_drawn : HasAll v → IsTrue (was_told v) → (t : ℕ) → times_ticket t v.drawn ≡ one_if (nat_lt t (2 * v.strata))
