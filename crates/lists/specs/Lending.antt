-- What a list holds after its items were lent to be changed.
use Rattle.std.specs.Prelude.{List, length, take, drop, ◌++◌}

-- the items as they were left, which are as many as before
abbrev pub with_items : {X : Type 0} → List X → List X → List X
with_items old left = take (length old) (left ++ drop (length left) old)
