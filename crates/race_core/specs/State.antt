-- The state of the race machine, as plain data.
use Rattle.std.specs.Prelude.{ℕ, ◌≡◌, ◌-◌, ◌*◌, ◌≤◌, ◌==◌, Bool, false, List, [], length, slice_index, slice_index_or, replicate, count_by, if◌then◌else◌}

-- strata are numbered 1 to strata, seats 1 to seats; a list by stratum or by seat keeps number n at place n - 1
pub record State : Type 0 where
  pub strata : ℕ
  pub seats : ℕ
  -- how many draw steps there were
  pub count : ℕ
  -- for each stratum 0, or the seat that won it
  pub words : List ℕ
  -- for each seat the tickets that it drew
  pub drawn : List (List ℕ)
  -- for each seat the strata that it won
  pub won : List (List ℕ)
  -- for each seat whether it was told that the tickets are spent
  pub spent : List Bool
  -- the pairs (stratum, seat) that were joined
  pub joined : List (ℕ × ℕ)

-- the state before the first event
abbrev pub initial : ℕ → ℕ → State
initial strata seats = record {
  strata = strata;
  seats = seats;
  count = 0;
  words = replicate strata 0;
  drawn = replicate seats [];
  won = replicate seats [];
  spent = replicate seats false;
  joined = [];
}

-- how many tickets there are: two for each stratum
abbrev pub tickets : State → ℕ
tickets c = 2 * c.strata

-- the number names a seat
abbrev pub IsSeat : State → ℕ → Type 0
IsSeat c s = (1 ≤ s) × (s ≤ c.seats)

-- the number names a stratum
abbrev pub IsStratum : State → ℕ → Type 0
IsStratum c i = (1 ≤ i) × (i ≤ c.strata)

-- the stratum's word
abbrev pub word : State → ℕ → ℕ
word c i = slice_index c.words (i - 1)

-- the tickets that the seat drew
abbrev pub drawn_list : State → ℕ → List ℕ
drawn_list c s = slice_index_or c.drawn (s - 1) []

-- the strata that the seat won
abbrev pub won_list : State → ℕ → List ℕ
won_list c s = slice_index_or c.won (s - 1) []

-- whether the seat was told that the tickets are spent
abbrev pub is_told_spent : State → ℕ → Bool
is_told_spent c s = slice_index_or c.spent (s - 1) false

-- how often the number stands in the list
abbrev pub times : ℕ → List ℕ → ℕ
times x xs = count_by (λ y. y == x) xs

-- how often the stratum stands in the joined list
abbrev pub times_joined : State → ℕ → ℕ
times_joined c i = count_by (λ p. p.0 == i) c.joined

-- 1 where the test holds, else 0
abbrev pub one_if : Bool → ℕ
one_if b = if b then 1 else 0

-- one word for each stratum, one entry of each list for each seat
pub record IsShaped (c : State) : Type 0 where
  pub words : length c.words ≡ c.strata
  pub drawn : length c.drawn ≡ c.seats
  pub won : length c.won ≡ c.seats
  pub spent : length c.spent ≡ c.seats

-- the state has so many strata and seats
pub record HasSizes (m n : ℕ) (c : State) : Type 0 where
  pub strata : c.strata ≡ m
  pub seats : c.seats ≡ n
