use Rattle.std.proofs.Common.{◌≡◌, ℕ, ◌<◌, ◌≤◌}
use Rattle.join_book.specs.Answers.{IsOf}
use Rattle.join_book.specs.Book.{IsVacant}
use Rattle.strata_work.proofs.working.work_rest.Given as goal

-- the strata before this one have entries
abbrev pub invariant-loop-stratum : goal.invariant-loop-stratum
invariant-loop-stratum g l = record {
  same : IsOf l.initial.book.curve l.initial.book.points l.initial.book.limit l.book;
  curve : g.W.ByHand.of_curve l.hand ≡ g.W.ByHand.of_curve l.initial.hand;
  points : g.W.ByHand.of_points l.hand ≡ g.W.ByHand.of_points l.initial.hand;
  limit : g.W.ByHand.of_limit l.hand ≡ g.W.ByHand.of_limit l.initial.hand;
  worked : (i : ℕ) → 1 ≤ i → i < l.stratum → IsVacant l.book.entries i → ⊥;
  kept : (i : ℕ) → IsVacant l.book.entries i → IsVacant l.initial.book.entries i;
}
