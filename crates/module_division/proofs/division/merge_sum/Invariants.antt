use Rattle.std.proofs.Common.{◌+◌, ◌-◌, ◌≤◌, length, drop}
use Rattle.polys.proofs.Merge.{Merged}
use Rattle.module_division.proofs.division.merge_sum.Given as goal

abbrev pub invariant-loop-i : goal.invariant-loop-i
invariant-loop-i l = record {
  i_in : l.i ≤ length l.a;
  j_in : l.j ≤ length l.b;
  merged : Merged l.p l.out.items (drop l.i l.a) (drop l.j l.b) l.a l.b;
}

abbrev pub decreases-loop-i : goal.decreases-loop-i
decreases-loop-i l = (length l.a - l.i) + (length l.b - l.j)
