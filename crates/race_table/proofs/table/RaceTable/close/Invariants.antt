use Rattle.std.proofs.Common.{◌≡◌, ℕ, ◌+◌, ◌<◌, get_or}
use Rattle.std.specs.Mem.Slots.{slots_items}
use mathlib.Core.Option.{some}
use lib.ListN.{get_elem?}
use Rattle.race_table.proofs.table.RaceTable.close.Given as goal

-- the winners so far are the words of the strata
abbrev pub invariant-loop-i : goal.invariant-loop-i
invariant-loop-i l = (k : ℕ) → k < l.i → get_elem? (slots_items l.closed.words) (k + 1) ≡ some (get_or l.winners k 0)
