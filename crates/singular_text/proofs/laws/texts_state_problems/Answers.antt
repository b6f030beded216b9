use Rattle.singular_text.proofs.Stating.{stated_problem}
use Rattle.singular_text.proofs.laws.texts_state_problems.Goals as goal

pub returns : goal.returns
returns c = stated_problem c.characteristics_are_prime.ensures c.polynomials_are_a_ring.ensures.closed
