-- What printing does to the bytes that stand there.
use Rattle.std.specs.Prelude.{ℕ, ◌≡◌, List, ◌++◌, take, Result, MatchResult}

-- the text is appended, or a prefix of it where memory ran out
abbrev pub Prints : {T E : Type 0} → Result T E → List ℕ → List ℕ → List ℕ → Type 0
Prints result old new text = MatchResult result (λ _. new ≡ old ++ text) (λ _. (n : ℕ) × (new ≡ old ++ take n text))
