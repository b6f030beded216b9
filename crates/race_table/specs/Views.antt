-- What passes know, as plain data.
use Rattle.std.specs.Prelude.{ℕ, ◌≡◌, ◌+◌, ◌-◌, ◌*◌, ◌<◌, ◌≤◌, ◌==◌, ◌&&◌, nat_le, nat_lt, Bool, length, List, [], ◌∷◌, ◌++◌, map, filter, count_by, if◌then◌else◌}
use Rattle.race_core.specs.State.{one_if}
use Rattle.race_table.specs.declared.view.View.{View}

abbrev pub view : ℕ → ℕ → ℕ → ℕ → List (ℕ × ℕ) → List (ℕ × ℕ) → List (ℕ × ℕ) → List ℕ → View
view strata seats first parts drawn won told spent = record {
  strata = strata;
  seats = seats;
  first = first;
  parts = parts;
  drawn = drawn;
  won = won;
  told = told;
  spent = spent;
}

-- the seat's number is in the view's range
abbrev pub InRange : View → ℕ → Type 0
InRange v s = (v.first ≤ s) × (s < v.first + v.parts)

-- 1 where the seat's number is in the view's range, else 0
abbrev pub has : ℕ → View → ℕ
has s v = one_if (nat_le v.first s && nat_lt s (v.first + v.parts))

-- what the seat has in a list of pairs
abbrev pub of_seat : ℕ → List (ℕ × ℕ) → List ℕ
of_seat s pairs = map (λ p. p.0) (filter (λ p. p.1 == s) pairs)

-- how often the pair stands in the list
abbrev pub times_pair : ℕ → ℕ → List (ℕ × ℕ) → ℕ
times_pair i s pairs = count_by (λ p. p.0 == i && p.1 == s) pairs

-- how often the stratum stands in the list
abbrev pub times_stratum : ℕ → List (ℕ × ℕ) → ℕ
times_stratum i pairs = count_by (λ p. p.0 == i) pairs

-- how often the ticket stands in the list
abbrev pub times_ticket : ℕ → List (ℕ × ℕ) → ℕ
times_ticket t pairs = count_by (λ p. p.0 == t) pairs

-- the view with one more ticket drawn by its own number
abbrev pub with_ticket : View → ℕ → View
with_ticket v t = view v.strata v.seats v.first v.parts (v.drawn ++ (t, v.first) ∷ []) v.won v.told v.spent

-- the view whose own number was told that the tickets are spent
abbrev pub with_spent : View → View
with_spent v = view v.strata v.seats v.first v.parts v.drawn v.won v.told (v.spent ++ v.first ∷ [])

-- the view with one more stratum won by its own number
abbrev pub with_won : View → ℕ → View
with_won v i = view v.strata v.seats v.first v.parts v.drawn (v.won ++ (i, v.first) ∷ []) v.told v.spent

-- the view that was told that the seat has won the stratum
abbrev pub with_told : View → ℕ → ℕ → View
with_told v i s = view v.strata v.seats v.first v.parts v.drawn v.won (v.told ++ (i, s) ∷ []) v.spent

-- the view after a draw that found the count n
abbrev pub drew : View → ℕ → View
drew v n = if nat_lt n (2 * v.strata) then with_ticket v n else with_spent v

-- the view after a look at the word of i that found n
abbrev pub looked : View → ℕ → ℕ → View
looked v i n = if n == 0 then v else with_told v i n

-- the view after a try to win i that found n
abbrev pub tried : View → ℕ → ℕ → View
tried v i n = if n == 0 then with_won v i else with_told v i n

-- the view without the last number of its range
abbrev pub front : View → View
front v = view v.strata v.seats v.first (v.parts - 1) v.drawn v.won v.told v.spent

-- a new view with the last number of the range alone
abbrev pub back : View → View
back v = view v.strata v.seats (v.first + (v.parts - 1)) 1 [] [] [] []

-- two views made one
abbrev pub united : View → View → View
united v w = view v.strata v.seats v.first (v.parts + w.parts) (v.drawn ++ w.drawn) (v.won ++ w.won) (v.told ++ w.told) (v.spent ++ w.spent)

-- the view that a united pass leaves behind: it has no number and knows nothing
abbrev pub nobody : View
nobody = view 0 0 0 0 [] [] [] []

-- whether one of the view's seats was told that the tickets are spent
abbrev pub was_told : View → Bool
was_told v = nat_lt 0 (length v.spent)

-- the view has all numbers of its table
abbrev pub HasAll : View → Type 0
HasAll v = (v.first ≡ 1) × (v.parts ≡ v.seats)
