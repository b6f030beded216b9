use Rattle.std.proofs.Common.{drop}
use Rattle.polys.specs.Poly.{terms_of}
use Rattle.module_division.proofs.Rank.{first_rank}
use Rattle.module_division.proofs.Steps.{Divided}
use Rattle.module_division.proofs.division.vector_remainder.Given as goal

abbrev pub invariant-loop-i : goal.invariant-loop-i
invariant-loop-i l = Divided l.p (terms_of l.divisors) l.fn.v.items l.out.items (drop l.i l.rest.items)

abbrev pub decreases-loop-i : goal.decreases-loop-i
decreases-loop-i l = first_rank (drop l.i l.rest.items)
