use Rattle.std.proofs.Common.{◌≡◌, ℕ, ◌<◌, get_or, length}
use Rattle.lane_rows.proofs.tests.residues.Given as goal

abbrev pub invariant-loop-place : goal.invariant-loop-place
invariant-loop-place l = record {
  long : length l.row ≡ 70;
  below : (k : ℕ) → k < l.place → get_or l.row k 0 < l.p;
}
