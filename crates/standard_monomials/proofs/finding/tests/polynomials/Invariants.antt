use Rattle.std.proofs.Common.{◌≡◌, map, take}
use Rattle.standard_monomials.specs.Finding.{terms_of}
use Rattle.standard_monomials.specs.Standard.{polynomial_of}
use Rattle.standard_monomials.proofs.finding.tests.polynomials.Given as goal

abbrev pub invariant-loop-m : goal.invariant-loop-m
invariant-loop-m l = terms_of l.fs.items ≡ map polynomial_of (take l.m-index l.ms)
