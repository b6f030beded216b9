use Rattle.polys.specs.Terms.{IsAffine}
use Rattle.standard_monomials.proofs.finding.tests.mono.Given as goal

abbrev pub invariant-loop-v : goal.invariant-loop-v
invariant-loop-v l = IsAffine l.variables l.m
