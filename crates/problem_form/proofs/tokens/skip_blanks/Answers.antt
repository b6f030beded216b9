use Rattle.std.proofs.Common.{◌∙◌, sym, arith}
use Rattle.problem_form.proofs.Lexing.{behind_comment, behind_blank}
use Rattle.problem_form.proofs.tokens.skip_blanks.Goals as goal

pub loop-byte-preserved-then-begins_comment : goal.loop-byte-preserved-then-begins_comment
loop-byte-preserved-then-begins_comment c = record {
  same = behind_comment _ c.in-Some.after.now _ c.in-Some.byte.now c.in-Some.ensures.cases.0 (sym c.begins_comment.ensures ∙ c.if-begins_comment.true)
      c.skip_comment-rest.ensures.same ∙ c.loop-byte.invariant.same;
  shorter = omega (arith, c.in-Some.ensures.cases.1);
}

pub loop-byte-preserved : goal.loop-byte-preserved
loop-byte-preserved c = record {
  same = behind_blank _ c.in-Some.after.now c.in-Some.byte.now c.in-Some.ensures.cases.0 (sym c.is_blank.ensures ∙ c.if-is_blank.true) ∙ c.loop-byte.invariant.same;
  shorter = omega (arith, c.in-Some.ensures.cases.1);
}
