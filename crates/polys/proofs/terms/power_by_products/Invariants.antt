use Rattle.std.proofs.Common.{◌≡◌}
use Rattle.polys.specs.Terms.{power}
use Rattle.polys.specs.Poly.{IsVector}
use Rattle.polys.proofs.terms.power_by_products.Given as goal

abbrev pub invariant-loop : goal.invariant-loop
invariant-loop l = record {
  so_far : l.out.items ≡ power l.p l.a l.counter;
  known : IsVector l.p l.out.items;
}
