use Rattle.std.proofs.Common.{take}
use Rattle.polys.specs.Terms.{EachMono, IsAffine}
use Rattle.polys.proofs.terms.is_affine.Given as goal

abbrev pub invariant-loop-t : goal.invariant-loop-t
invariant-loop-t l = EachMono (IsAffine 6) (take l.t-index l.a)
