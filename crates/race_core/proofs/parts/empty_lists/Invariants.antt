use Rattle.std.proofs.Common.{◌≡◌, [], replicate}
use Rattle.race_core.proofs.parts.empty_lists.Given as goal

-- each seat so far has an empty list
abbrev pub invariant-loop-seat : goal.invariant-loop-seat
invariant-loop-seat l = l.lists.items ≡ replicate l._seat []
