-- What holds of the words and of all views between any two steps.
use Rattle.std.specs.Prelude.{ℕ, ◌≡◌, ◌≢◌, ◌+◌, ◌*◌, ◌^◌, ◌<◌, ◌≤◌, ◌==◌, ◌&&◌, nat_le, nat_lt, Bool, List, [], length, slice_index, map, filter, flat_map, drop, sum_by, All}
use mathlib.Core.Option.{some}
use lib.ListN.{get_elem?}
use Rattle.std.specs.List.{range_with_len}
use Rattle.race_core.specs.State.{State, one_if}
use Rattle.race_core.specs.Sound.{Sound}
use Rattle.race_table.specs.Views.{has, of_seat}
use Rattle.race_table.specs.declared.view.View.{View}

-- the tickets that the seat drew, by all views
abbrev pub drawn_by : List View → ℕ → List ℕ
drawn_by views s = flat_map (λ v. of_seat s v.drawn) views

-- the strata that the seat won, by all views
abbrev pub won_by : List View → ℕ → List ℕ
won_by views s = flat_map (λ v. of_seat s v.won) views

-- whether the seat was told that the tickets are spent, by all views
abbrev pub is_told : List View → ℕ → Bool
is_told views s = nat_lt 0 (length (flat_map (λ v. filter (λ t. t == s) v.spent) views))

-- the state of the race machine that the words and the views are; its joined list is empty
abbrev pub state_of : ℕ → ℕ → List ℕ → List View → State
state_of strata seats words views = record {
  strata = strata;
  seats = seats;
  count = slice_index words 0;
  words = drop 1 words;
  drawn = map (drawn_by views) (range_with_len 1 seats);
  won = map (won_by views) (range_with_len 1 seats);
  spent = map (is_told views) (range_with_len 1 seats);
  joined = [];
}

-- what the words are to the told pairs of a view: each names the seat in the stratum's word
abbrev pub ToldTruly : ℕ → List ℕ → View → Type 0
ToldTruly strata words v = All (λ p. (1 ≤ p.0) × (p.0 ≤ strata) × (p.1 ≢ 0) × (slice_index words p.0 ≡ p.1)) v.told

-- a view's pairs name seats of its range, and it knows the table's sizes unless its range is empty
pub record IsOwn (strata seats : ℕ) (v : View) : Type 0 where
  pub drawn : (s : ℕ) → has s v ≡ 0 → of_seat s v.drawn ≡ []
  pub won : (s : ℕ) → has s v ≡ 0 → of_seat s v.won ≡ []
  pub spent : (s : ℕ) → has s v ≡ 0 → filter (λ t. t == s) v.spent ≡ []
  pub sizes : 0 < v.parts → (v.strata ≡ strata) × (v.seats ≡ seats)

-- the rule of a table with so many strata and seats
pub record Held (strata seats : ℕ) (words : List ℕ) (views : List View) : Type 0 where
  pub wide : length words ≡ strata + 1
  pub small : 2 * strata + seats < 2 ^ 63
  -- with each view standing for the seats of its range they are a sound state of the race machine
  pub sound : Sound (state_of strata seats words views)
  -- the ranges have each number from 1 to seats once
  pub numbers : (s : ℕ) → sum_by (has s) views ≡ one_if (nat_le 1 s && nat_le s seats)
  pub own : (id : ℕ) (v : View) → get_elem? views id ≡ some v → IsOwn strata seats v
  pub told : (id : ℕ) (v : View) → get_elem? views id ≡ some v → ToldTruly strata words v
