use Rattle.std.proofs.Common.{◌≡◌, ◌++◌, take}
use Rattle.std.specs.List.{flat_map}
use Rattle.polys.specs.Poly.{terms_of}
use Rattle.jacobian_pick.specs.Candidates.{variable_sums}
use Rattle.jacobian_pick.specs.Lists.{polynomials}
use Rattle.jacobian_pick.proofs.sums.push_all_variable_sums.Given as goal

abbrev pub invariant-loop-g : goal.invariant-loop-g
invariant-loop-g l = l.into ≡ l.fn.into ++ polynomials l.fn.prime (flat_map (variable_sums l.fn.prime l.fn.variables l.f.terms) (terms_of (take l.g-index l.others)))
