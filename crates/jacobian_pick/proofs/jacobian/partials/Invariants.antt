use Rattle.std.proofs.Common.{◌≡◌, take}
use Rattle.std.specs.List.{flat_map}
use Rattle.polys.specs.Poly.{terms_of}
use Rattle.jacobian_pick.specs.Candidates.{partials}
use Rattle.jacobian_pick.specs.Lists.{polynomials}
use Rattle.jacobian_pick.proofs.jacobian.partials.Given as goal

abbrev pub invariant-loop-f : goal.invariant-loop-f
invariant-loop-f l = l.entries ≡ polynomials l.fn.prime (flat_map (partials l.fn.prime) (terms_of (take l.f-index l.gens)))
