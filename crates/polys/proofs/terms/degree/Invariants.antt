use Rattle.std.proofs.Common.{◌≡◌, take}
use Rattle.polys.specs.Terms.{degree_of}
use Rattle.polys.proofs.terms.degree.Given as goal

abbrev pub invariant-loop-t : goal.invariant-loop-t
invariant-loop-t l = l.degree ≡ degree_of (take l.t-index l.a)
