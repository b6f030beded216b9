use Rattle.std.proofs.Common.{◌≡◌, take}
use Rattle.monomials.specs.Mono.{IsMono}
use Rattle.polys.specs.Terms.{EachMono}
use Rattle.polys.proofs.Derivatives.{derived_list}
use Rattle.polys.proofs.terms.derivative.Given as goal

abbrev pub invariant-loop-t : goal.invariant-loop-t
invariant-loop-t l = record {
  so_far : l.out.items ≡ derived_list l.modulus l.v (take l.t-index l.a);
  monos : EachMono IsMono l.out.items;
}
