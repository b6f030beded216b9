use Rattle.std.proofs.Common.{◌≡◌, ◌*◌, ◌≤◌, ◌^◌, take}
use Rattle.lane_rows.specs.Rows.{sum_of_products}
use Rattle.lane_rows.proofs.products.block_sum.Given as goal

abbrev pub invariant-loop-k : goal.invariant-loop-k
invariant-loop-k l = record {
  sum : l.total ≡ sum_of_products (take l.k l.a) (take l.k l.b);
  bound : l.total ≤ l.k * 2 ^ 30;
}
