use Rattle.standard_monomials.specs.Finding.{terms_of, GainsMultiples}
use Rattle.standard_monomials.proofs.finding.insert_multiples.Given as goal

abbrev pub invariant-loop-v : goal.invariant-loop-v
invariant-loop-v l = GainsMultiples (terms_of l.basis) l.v l.m l.fn.found.items l.found.items
