-- Bytes cut at marks.
use Rattle.std.specs.Prelude.{ℕ, ◌==◌, if◌then◌else◌, Bool, List, [], ◌∷◌, length, take}
use Rattle.std.specs.Str.{bytes_eq}

-- the bytes before the first mark, or all where there is none
abbrev pub until : ℕ → List ℕ → List ℕ
until mark [] = []
until mark (b ∷ bytes) = if b == mark then [] else (b ∷ until mark bytes)

-- the bytes behind it
abbrev pub behind : ℕ → List ℕ → List ℕ
behind mark [] = []
behind mark (b ∷ bytes) = if b == mark then bytes else behind mark bytes

-- the bytes but the marks
abbrev pub without : ℕ → List ℕ → List ℕ
without mark [] = []
without mark (b ∷ bytes) = if b == mark then without mark bytes else (b ∷ without mark bytes)

-- the bytes begin with the word
abbrev pub begins : List ℕ → List ℕ → Bool
begins word bytes = bytes_eq word (take (length word) bytes)
