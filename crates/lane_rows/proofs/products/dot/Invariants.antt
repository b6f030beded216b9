use Rattle.std.proofs.Common.{◌≡◌, ◌*◌, ◌%◌, take}
use Rattle.lane_rows.specs.Rows.{sum_of_products}
use Rattle.lane_rows.proofs.products.dot.Given as goal

abbrev pub invariant-loop-i : goal.invariant-loop-i
invariant-loop-i l = l.total ≡ sum_of_products (take (l.i * 1048576) l.a) (take (l.i * 1048576) l.b) % l.p
