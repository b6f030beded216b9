use Rattle.std.proofs.Common.{◌≡◌, ℕ, ◌-◌, ◌<◌, ◌≤◌, ◌++◌, List, length, get_or, replicate}
use Rattle.digit_make.proofs.making.border_rows.Given as goal

abbrev pub invariant-loop-j : goal.invariant-loop-j
invariant-loop-j l = record {
  count : length l.border ≡ l.j;
  each : (j : ℕ) (d : List ℕ) → j < length l.border → (length (get_or l.rows j d) ≡ l.wide) × (length (get_or l.border j d) ≤ l.wide)
      × (get_or l.border j d ++ replicate (l.wide - length (get_or l.border j d)) 0 ≡ get_or l.rows j d);
}
