use Rattle.std.proofs.Common.{◌≡◌, ◌<◌, ℕ, [], length, get_or}
use Rattle.frobenius_split.specs.Points.{at}
use Rattle.frobenius_split.specs.Idempotents.{IsIdealAt}
use Rattle.frobenius_split.proofs.frames.ideals_of.Given as goal

abbrev pub invariant-loop-k : goal.invariant-loop-k
invariant-loop-k l = record {
  count : length l.spaces ≡ l.k;
  spaces : (j : ℕ) → j < l.k → IsIdealAt l.a l.nilpotent (get_or l.es j []) (at l.spaces j);
}
