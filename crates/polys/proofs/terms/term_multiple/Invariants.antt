use Rattle.std.proofs.Common.{◌≡◌, take, map}
use Rattle.monomials.specs.Mono.{IsMono}
use Rattle.polys.specs.Terms.{EachMono}
use Rattle.polys.proofs.Products.{times_term}
use Rattle.polys.proofs.terms.term_multiple.Given as goal

abbrev pub invariant-loop-u : goal.invariant-loop-u
invariant-loop-u l = record {
  so_far : l.out.items ≡ map (times_term l.modulus l.t) (take l.u-index l.a);
  monos : EachMono IsMono l.out.items;
}
