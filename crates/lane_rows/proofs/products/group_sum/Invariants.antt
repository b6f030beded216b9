use Rattle.std.proofs.Common.{◌≡◌, ◌*◌, ◌≤◌, ◌^◌, take, length}
use lib.Lanes.{sum_l}
use Rattle.lane_rows.specs.Rows.{sum_of_products}
use Rattle.lane_rows.proofs.products.group_sum.Given as goal

abbrev pub invariant-loop-i : goal.invariant-loop-i
invariant-loop-i l = record {
  long : length l.lanes ≡ 8;
  sum : sum_l l.lanes ≡ sum_of_products (take (l.i * 8) l.a) (take (l.i * 8) l.b);
  bound : sum_l l.lanes ≤ l.i * 8 * 2 ^ 30;
}
