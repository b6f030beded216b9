-- Sources and sinks over memory, as plain data, and one call on each.
use Rattle.std.specs.Prelude.{◌≡◌, ℕ, ◌-◌, ◌≤◌, ◌++◌, ◌⊎◌, List, length, take, drop, min, Contains}
use Rattle.norm_outside.specs.Causes.{one_more}

-- a source: the bytes left, the most that one call gives, the numbers from 1 of the calls that fail,
-- the calls made, and those that failed
pub record Feed : Type 0 where
  pub left : List ℕ
  pub piece : ℕ
  pub failing : List ℕ
  pub calls : ℕ
  pub faults : ℕ

-- the call that comes next fails
abbrev pub FeedFails : Feed → Type 0
FeedFails feed = Contains feed.failing (one_more feed.calls)

-- a call that gives n bytes at the front of the buffer
pub record Gives (old new : Feed) (n : ℕ) (buffer : List ℕ) : Type 0 where
  pub count : n ≡ min (min old.piece (length buffer)) (length old.left)
  pub bytes : take n buffer ≡ take n old.left
  pub then : new ≡ record old { left = drop n old.left; calls = one_more old.calls }

-- a call that fails
abbrev pub GivesNothing : Feed → Feed → Type 0
GivesNothing old new = new ≡ record old { calls = one_more old.calls; faults = one_more old.faults }

-- a sink: the bytes held, the bytes that it has room for, the most that one call takes, the numbers from
-- 1 of the calls that fail, the calls made, and those that failed
pub record Store : Type 0 where
  pub held : List ℕ
  pub room : ℕ
  pub piece : ℕ
  pub failing : List ℕ
  pub calls : ℕ
  pub faults : ℕ

-- the call that comes next fails: its number is listed, or no room is left
abbrev pub StoreFails : Store → Type 0
StoreFails store = Contains store.failing (one_more store.calls) ⊎ (store.room ≤ length store.held)

-- a call that takes the first n of the bytes
pub record Takes (old new : Store) (n : ℕ) (bytes : List ℕ) : Type 0 where
  pub count : n ≡ min (min old.piece (length bytes)) (old.room - length old.held)
  pub then : new ≡ record old { held = old.held ++ take n bytes; calls = one_more old.calls }

-- a call that fails
abbrev pub TakesNothing : Store → Store → Type 0
TakesNothing old new = new ≡ record old { calls = one_more old.calls; faults = one_more old.faults }
