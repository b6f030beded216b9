use Rattle.monomials.specs.Mono.{total_degree}
use Rattle.digit_plan.proofs.planning.+insert_chain.Given as goal

abbrev pub decreases-insert_chain : goal.decreases-insert_chain
decreases-insert_chain l = total_degree l.m.exponents
