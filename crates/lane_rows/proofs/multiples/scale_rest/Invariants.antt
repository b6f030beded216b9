use Rattle.std.proofs.Common.{◌≡◌, ℕ, ◌*◌, ◌%◌, ◌<◌, ◌≤◌, get_or}
use Rattle.lane_rows.proofs.multiples.scale_rest.Given as goal

abbrev pub invariant-loop-k : goal.invariant-loop-k
invariant-loop-k l = record {
  done : (k : ℕ) → l.start ≤ k → k < l.k → get_or l.row k 0 ≡ (l.c * get_or l.fn.row k 0) % l.p;
  below : (k : ℕ) → k < l.start → get_or l.row k 0 ≡ get_or l.fn.row k 0;
  above : (k : ℕ) → l.k ≤ k → get_or l.row k 0 ≡ get_or l.fn.row k 0;
}
