use Rattle.std.proofs.Common.{◌≡◌}
use Rattle.digit_space.specs.Model.{value_of}
use Rattle.point_quotient.specs.Quotients.{AreProductsWith}
use Rattle.point_quotient.proofs.table.products_with.Given as goal

abbrev pub invariant-loop-j : goal.invariant-loop-j
invariant-loop-j l = record {
  same : l.rest ≡ l.fn.rest;
  found : AreProductsWith l.digits l.power l.products l.fn.rest (value_of l.digits l.factor) l.j l.rows l.made;
}
