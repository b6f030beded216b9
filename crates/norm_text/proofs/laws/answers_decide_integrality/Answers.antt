-- What an answer says of fractions.
use Rattle.norm_text.proofs.Meaning.{integral_law, least_law, local_law}
use Rattle.norm_text.proofs.laws.answers_decide_integrality.Goals as goal

pub returns-clause-integral : goal.returns-clause-integral
returns-clause-integral c = integral_law

pub returns-clause-least : goal.returns-clause-least
returns-clause-least c = least_law

pub returns-clause-local : goal.returns-clause-local
returns-clause-local c = local_law
