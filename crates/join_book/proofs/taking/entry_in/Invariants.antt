use Rattle.std.proofs.Common.{take}
use Rattle.join_book.specs.Book.{IsVacant}
use Rattle.join_book.proofs.taking.entry_in.Given as goal

-- none so far is of the stratum
abbrev pub invariant-loop-done : goal.invariant-loop-done
invariant-loop-done l = IsVacant (take l.done-index l.entries) l.stratum
