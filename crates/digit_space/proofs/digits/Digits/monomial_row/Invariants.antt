use Rattle.monomials.specs.Mono.{total_degree}
use Rattle.digit_space.proofs.MonomialRows.{OnTheWay}
use Rattle.digit_space.proofs.digits.Digits.monomial_row.Given as goal

abbrev pub invariant-loop-rest : goal.invariant-loop-rest
invariant-loop-rest l = OnTheWay l.self l.m l.rest l.made

abbrev pub decreases-loop-rest : goal.decreases-loop-rest
decreases-loop-rest l = total_degree l.rest.exponents
