-- The letters of the variables.
use Rattle.std.specs.Prelude.{ℕ, ◌≢◌, ◌≤◌, ◌⊎◌, ◌==◌, if◌then◌else◌, Bool, suc, List, [], ◌∷◌, length, All, AllPairs}
use Rattle.std.specs.List.{list_any}
use Rattle.problem.specs.declared.limits.TheConstants.{MAX_LETTERS}

-- an ASCII letter, small or capital
abbrev pub IsLetter : ℕ → Type 0
IsLetter x = ((65 ≤ x) × (x ≤ 90)) ⊎ ((97 ≤ x) × (x ≤ 122))

-- 1 to 6 distinct ASCII letters; the first stands for the greatest variable
pub record AreLetters (letters : List ℕ) : Type 0 where
  pub some : 1 ≤ length letters
  pub six : length letters ≤ MAX_LETTERS
  pub each : All IsLetter letters
  pub distinct : AllPairs (λ x y. x ≢ y) letters

-- the byte is one of the letters
abbrev pub is_among : List ℕ → ℕ → Bool
is_among letters b = list_any (λ x. x == b) letters

-- the place of a letter
abbrev pub place : List ℕ → ℕ → ℕ
place [] x = 0
place (y ∷ letters) x = if y == x then 0 else suc (place letters x)
