use Rattle.std.proofs.Common.{◌≡◌, take, map}
use Rattle.monomials.specs.Mono.{IsMono}
use Rattle.polys.specs.Terms.{EachMono}
use Rattle.polys.proofs.Raised.{raise}
use Rattle.polys.proofs.top.frobenius.Given as goal

abbrev pub invariant-loop-t : goal.invariant-loop-t
invariant-loop-t l = record {
  so_far : l.out.items ≡ map (raise l.modulus) (take l.t-index l.f);
  monos : EachMono IsMono l.out.items;
}
