use Rattle.standard_monomials.proofs.Examples.{staircase_law, cross_law}
use Rattle.standard_monomials.proofs.laws.examples_by_hand.Goals as goal

pub returns-clause-staircase : goal.returns-clause-staircase
returns-clause-staircase c = staircase_law

pub returns-clause-cross : goal.returns-clause-cross
returns-clause-cross c = cross_law
