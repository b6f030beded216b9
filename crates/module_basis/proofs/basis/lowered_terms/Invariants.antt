use Rattle.std.proofs.Common.{◌≡◌, map, take}
use Rattle.monomials.specs.Mono.{IsMono}
use Rattle.polys.specs.Terms.{EachMono}
use Rattle.module_basis.specs.Basis.{lowered}
use Rattle.module_basis.proofs.basis.lowered_terms.Given as goal

abbrev pub invariant-loop-t : goal.invariant-loop-t
invariant-loop-t l = record {
  so_far : l.terms.items ≡ map lowered (take l.t-index l.source);
  monos : EachMono IsMono l.terms.items;
}
