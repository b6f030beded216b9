use Rattle.std.proofs.Common.{◌≡◌, ◌≤◌, length, true}
use Rattle.problem_form.specs.Tokens.{tokens_from}
use Rattle.problem_form.proofs.tokens.skip_comment.Given as goal

abbrev pub invariant-loop-byte : goal.invariant-loop-byte
invariant-loop-byte l = record {
  same : tokens_from true l.rest ≡ tokens_from true l.fn.text;
  shorter : length l.rest ≤ length l.fn.text;
}

abbrev pub decreases-loop-byte : goal.decreases-loop-byte
decreases-loop-byte l = length l.rest
