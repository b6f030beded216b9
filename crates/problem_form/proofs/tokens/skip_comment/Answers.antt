use Rattle.std.proofs.Common.{◌∙◌, arith}
use Rattle.problem_form.proofs.Lexing.{in_comment, comment_over, comment_ended}
use Rattle.problem_form.proofs.tokens.skip_comment.Goals as goal

pub returns-then-byte-eq10-clause-same : goal.returns-then-byte-eq10-clause-same
returns-then-byte-eq10-clause-same c =
    comment_over _ c.in-Some.after.now c.in-Some.byte.now c.in-Some.ensures.cases.0 c.if-byte-eq10.true ∙ c.loop-byte.invariant.same

pub loop-byte-preserved : goal.loop-byte-preserved
loop-byte-preserved c = record {
  same = in_comment _ c.in-Some.after.now c.in-Some.byte.now c.in-Some.ensures.cases.0 c.if-byte-eq10.false ∙ c.loop-byte.invariant.same;
  shorter = omega (arith, c.in-Some.ensures.cases.1);
}

pub returns-clause-same : goal.returns-clause-same
returns-clause-same c = comment_ended _ c.in_default.ensures.cases ∙ c.loop-byte.invariant.same
