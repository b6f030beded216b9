-- One list of named points, one answer, one text.
use Rattle.norm_text.proofs.OneAnswer.{one_answer_law, one_text_law}
use Rattle.norm_text.proofs.OneList.{one_list}
use Rattle.norm_text.proofs.laws.answers_are_one.Goals as goal

pub returns-clause-points : goal.returns-clause-points
returns-clause-points c = one_list

pub returns-clause-answers : goal.returns-clause-answers
returns-clause-answers c = one_answer_law

pub returns-clause-texts : goal.returns-clause-texts
returns-clause-texts c = one_text_law
