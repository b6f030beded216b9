use Rattle.std.proofs.Common.{◌≡◌, ◌-◌, length}
use Rattle.join_book.specs.Answers.{IsOf}
use Rattle.strata_work.proofs.working.settle_all.Given as goal

-- only what is settled and the sum change
abbrev pub invariant-loop : goal.invariant-loop
invariant-loop l = record {
  same : IsOf l.initial.book.curve l.initial.book.points l.initial.book.limit l.book;
  entries : l.book.entries ≡ l.initial.book.entries;
  joined : l.book.joined ≡ l.initial.book.joined;
}

-- the entries that are left
abbrev pub decreases-loop : goal.decreases-loop
decreases-loop l = length l.book.entries - l.book.settled
