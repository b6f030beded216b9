use Rattle.std.proofs.Common.{◌≡◌, ◌++◌, drop}
use Rattle.polys.specs.Poly.{terms_of}
use Rattle.jacobian_pick.specs.Candidates.{over_pairs, number_sums}
use Rattle.jacobian_pick.specs.Lists.{polynomials}
use Rattle.jacobian_pick.proofs.sums.sums_by_numbers.Given as goal

abbrev pub invariant-loop-i : goal.invariant-loop-i
invariant-loop-i l =
    l.sums ++ polynomials l.fn.prime (over_pairs (number_sums l.fn.prime) (terms_of (drop l.i l.members))) ≡ polynomials l.fn.prime (over_pairs (number_sums l.fn.prime) (terms_of l.members))
