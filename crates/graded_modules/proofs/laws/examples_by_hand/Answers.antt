use Rattle.graded_modules.proofs.Examples.{two_variables_law, s_vector_law, shift_law}
use Rattle.graded_modules.proofs.laws.examples_by_hand.Goals as goal

pub returns-clause-s_vector : goal.returns-clause-s_vector
returns-clause-s_vector c = s_vector_law

pub returns-clause-shift : goal.returns-clause-shift
returns-clause-shift c = shift_law

pub returns-clause-deep : goal.returns-clause-deep
returns-clause-deep c = two_variables_law
