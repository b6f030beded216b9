use Rattle.std.proofs.Common.{◌≡◌, ◌<◌, ℕ, [], length, get_or}
use Rattle.frobenius_split.specs.Points.{at}
use Rattle.frobenius_split.specs.Idempotents.{IsIdealAt}
use Rattle.frobenius_split.proofs.ideals.ideals_one_by_one.Given as goal

abbrev pub invariant-loop-i : goal.invariant-loop-i
invariant-loop-i l = record {
  count : length l.spaces ≡ l.i;
  spaces : (j : ℕ) → j < l.i → IsIdealAt l.a l.nilpotent (get_or l.es j []) (at l.spaces j);
}
