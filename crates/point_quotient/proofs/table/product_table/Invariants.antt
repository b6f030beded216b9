use Rattle.std.proofs.Common.{◌≡◌}
use Rattle.point_quotient.specs.Quotients.{IsProductTable}
use Rattle.point_quotient.proofs.table.product_table.Given as goal

abbrev pub invariant-loop-i : goal.invariant-loop-i
invariant-loop-i l = record {
  same : l.rest ≡ l.fn.rest;
  found : IsProductTable l.digits l.power l.products l.fn.rest l.rows l.i l.table;
}
