use Rattle.std.proofs.Common.{◌≡◌, ℕ, ◌+◌, ◌*◌, ◌%◌, ◌<◌, ◌≤◌, get_or}
use Rattle.lane_rows.proofs.multiples.axpy_groups.Given as goal

abbrev pub invariant-loop-i : goal.invariant-loop-i
invariant-loop-i l = record {
  done : (k : ℕ) → k < l.i * 8 → get_or l.into k 0 ≡ (get_or l.fn.into k 0 + l.c * get_or l.row k 0) % l.p;
  kept : (k : ℕ) → l.i * 8 ≤ k → get_or l.into k 0 ≡ get_or l.fn.into k 0;
}
