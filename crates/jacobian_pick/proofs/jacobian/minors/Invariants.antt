use Rattle.std.proofs.Common.{◌≡◌, ◌++◌, drop}
use Rattle.polys.specs.Poly.{terms_of}
use Rattle.jacobian_pick.specs.Candidates.{over_pairs, row_minors}
use Rattle.jacobian_pick.specs.Lists.{polynomials}
use Rattle.jacobian_pick.proofs.jacobian.minors.Given as goal

abbrev pub invariant-loop-i : goal.invariant-loop-i
invariant-loop-i l =
    l.minors ++ polynomials l.fn.prime (over_pairs (row_minors l.fn.prime) (terms_of (drop l.i l.gens))) ≡ polynomials l.fn.prime (over_pairs (row_minors l.fn.prime) (terms_of l.gens))
