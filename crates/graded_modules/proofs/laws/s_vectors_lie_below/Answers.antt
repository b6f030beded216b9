use Rattle.graded_modules.proofs.SVectors.{s_vector_law}
use Rattle.graded_modules.proofs.laws.s_vectors_lie_below.Goals as goal

pub returns : goal.returns
returns c = s_vector_law
