use Rattle.norm_text.proofs.Plain.{plain_answers}
use Rattle.norm_text.proofs.laws.plain_problems_have_plain_answers.Goals as goal

pub returns : goal.returns
returns c = plain_answers
