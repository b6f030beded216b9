use Rattle.std.proofs.Common.{◌-◌}
use Rattle.standard_monomials.specs.Finding.{terms_of}
use Rattle.standard_monomials.proofs.Steps.{Searched}
use Rattle.standard_monomials.proofs.finding.search.Given as goal

abbrev pub invariant-loop-next : goal.invariant-loop-next
invariant-loop-next l = Searched l.variables (terms_of l.basis) l.next l.found.items

abbrev pub decreases-loop-next : goal.decreases-loop-next
decreases-loop-next l = l.limit - l.next
