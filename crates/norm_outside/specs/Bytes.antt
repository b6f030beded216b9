-- What a call took of the bytes that a source has left. Of a source that tells nothing they say nothing.
use Rattle.std.specs.Prelude.{ℕ, List, Option, ◌<◌, ◌≤◌, length}
use Rattle.std.specs.Io.KnownBytes.{Consumes, IsAtEnd}

-- the source lost these bytes and is at its end
pub record ReadToEnd (old new : Option (List ℕ)) (bytes : List ℕ) : Type 0 where
  pub gave : Consumes old new bytes
  pub ended : IsAtEnd new

-- the source lost more bytes than the limit
abbrev pub TookMore : Option (List ℕ) → Option (List ℕ) → ℕ → Type 0
TookMore old new limit = (bytes : List ℕ) × Consumes old new bytes × (limit < length bytes)

-- the source lost no more bytes than the limit
abbrev pub TookAtMost : Option (List ℕ) → Option (List ℕ) → ℕ → Type 0
TookAtMost old new limit = (bytes : List ℕ) × Consumes old new bytes × (length bytes ≤ limit)
