use Rattle.std.proofs.Common.{◌≡◌, ◌++◌, [], take, drop}
use Rattle.polys.specs.Poly.{terms_of}
use Rattle.jacobian_pick.specs.Candidates.{over_others, variable_sums}
use Rattle.jacobian_pick.specs.Lists.{polynomials}
use Rattle.jacobian_pick.proofs.sums.sums_by_variables.Given as goal

abbrev pub invariant-loop-i : goal.invariant-loop-i
invariant-loop-i l =
    l.sums ++ polynomials l.fn.prime (over_others (variable_sums l.fn.prime l.fn.variables) (terms_of (take l.i l.members)) (terms_of (drop l.i l.members)))
    ≡ polynomials l.fn.prime (over_others (variable_sums l.fn.prime l.fn.variables) [] (terms_of l.members))
