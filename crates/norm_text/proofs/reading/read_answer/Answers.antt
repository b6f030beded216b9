use Rattle.std.proofs.Common.{sym, ap, ◌∙◌}
use Rattle.norm_text.specs.Answer.{answer_text}
use Rattle.norm_text.proofs.Told.{refuted}
use Rattle.norm_text.proofs.Whole.{range_of, over_of}
use Rattle.norm_text.proofs.reading.read_answer.Goals as goal

pub is_text-requires : goal.is_text-requires
is_text-requires c = over_of c.in_ok-answer.answer c.in_ok-answer.ensures.known

pub returns-then-not-branch-clause-exact : goal.returns-then-not-branch-clause-exact
returns-then-not-branch-clause-exact c a h text =
    absurd (refuted c.in_ok-is_text.field-0 _ c.if-not-branch.true c.in_ok-is_text.ensures.1 (text ∙ ap answer_text (sym (c.in_ok-answer.ensures.exact a h text))))

pub returns-then-not-branch-clause-not_answer : goal.returns-then-not-branch-clause-not_answer
returns-then-not-branch-clause-not_answer c _ a h text =
    refuted c.in_ok-is_text.field-0 _ c.if-not-branch.true c.in_ok-is_text.ensures.1 (text ∙ ap answer_text (sym (c.in_ok-answer.ensures.exact a h text)))

pub returns-clause-range : goal.returns-clause-range
returns-clause-range c = range_of c.in_ok-answer.answer c.in_ok-answer.ensures.known (c.are_sized.ensures.0 c.if-not-are_sized.false)
