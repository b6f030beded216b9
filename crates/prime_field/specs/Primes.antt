-- The characteristics that the program serves, and what a prime is.
use Rattle.std.specs.Prelude.{ℕ, Bool, false, IsTrue, List, [], ◌∷◌, ◌==◌, ◌||◌, ◌≤◌, ◌<◌, ◌%◌, ◌≢◌}

-- the table of characteristics
abbrev pub characteristics : List ℕ
characteristics = 2 ∷ 3 ∷ 5 ∷ 7 ∷ 11 ∷ 13 ∷ 17 ∷ 19 ∷ 23 ∷ 29 ∷ 31 ∷ 37 ∷ 41 ∷ 43 ∷ 47 ∷ 101 ∷ 251 ∷ 32003 ∷ []

-- the number is one of the list
abbrev pub is_among : List ℕ → ℕ → Bool
is_among [] p = false
is_among (q ∷ qs) p = p == q || is_among qs p

-- the number stands in the table
abbrev pub IsCharacteristic : ℕ → Type 0
IsCharacteristic p = IsTrue (is_among characteristics p)

-- p is at least 2, and no number from 2 to p - 1 divides it
abbrev pub IsPrime : ℕ → Type 0
IsPrime p = (2 ≤ p) × ((d : ℕ) → 2 ≤ d → d < p → p % d ≢ 0)

-- each number of the table is prime
abbrev pub CharacteristicsArePrime : Type 0
CharacteristicsArePrime = (p : ℕ) → IsCharacteristic p → IsPrime p
