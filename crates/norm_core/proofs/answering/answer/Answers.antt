use Rattle.std.proofs.Common.{ℕ, List, subst}
use Rattle.norm_core.specs.Telling.{Tells, HasAnswer, HasStatus}
use Rattle.norm_core.proofs.InputLemmas.{read-has_status, read-of_answer, long-has_status, long-of_answer}
use Rattle.norm_core.proofs.answering.answer.Goals as goal

pub returns-in-Ok-clause-exact : goal.returns-in-Ok-clause-exact
returns-in-Ok-clause-exact g c =
    read-has_status c.args.cap c.args.limit _ _ _ c.answer_to.result c.in-Ok.ensures.bytes.0 (subst (λ b. (status : ℕ) (text : List ℕ) → Tells c.args.cap c.args.limit b status text → HasStatus c.answer_to.result status) c.as_slice.ensures c.answer_to.ensures.exact)

pub returns-in-Ok-clause-complete : goal.returns-in-Ok-clause-complete
returns-in-Ok-clause-complete g c =
    read-of_answer c.args.cap c.args.limit _ _ _ c.answer_to.result c.in-Ok.ensures.bytes.0 (subst (λ b. HasAnswer c.args.cap c.args.limit b → HasStatus c.answer_to.result 0) c.as_slice.ensures c.answer_to.ensures.complete)

pub returns-in-Err-TooLong-clause-exact : goal.returns-in-Err-TooLong-clause-exact
returns-in-Err-TooLong-clause-exact g c = long-has_status c.args.cap c.args.limit _ _ (c.in-Err-TooLong.ensures.too_long (cc))

pub returns-in-Err-TooLong-clause-complete : goal.returns-in-Err-TooLong-clause-complete
returns-in-Err-TooLong-clause-complete g c = long-of_answer c.args.cap c.args.limit _ _ (c.in-Err-TooLong.ensures.too_long (cc))
