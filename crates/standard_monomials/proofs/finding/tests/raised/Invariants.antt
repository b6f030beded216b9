use Rattle.polys.specs.Terms.{IsAffine}
use Rattle.standard_monomials.proofs.finding.tests.raised.Given as goal

abbrev pub invariant-loop : goal.invariant-loop
invariant-loop l = IsAffine l.variables l.product
