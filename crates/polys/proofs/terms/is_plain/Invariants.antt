use Rattle.std.proofs.Common.{take}
use Rattle.polys.specs.Terms.{EachMono}
use Rattle.polys.specs.Poly.{IsPlain}
use Rattle.polys.proofs.terms.is_plain.Given as goal

abbrev pub invariant-loop-t : goal.invariant-loop-t
invariant-loop-t l = EachMono IsPlain (take l.t-index l.a)
