use Rattle.std.proofs.Common.{◌≡◌, ◌≤◌, length}
use Rattle.problem_form.specs.Tokens.{tokens}
use Rattle.problem_form.proofs.tokens.skip_blanks.Given as goal

abbrev pub invariant-loop-byte : goal.invariant-loop-byte
invariant-loop-byte l = record {
  same : tokens l.rest ≡ tokens l.fn.text;
  shorter : length l.rest ≤ length l.fn.text;
}

abbrev pub decreases-loop-byte : goal.decreases-loop-byte
decreases-loop-byte l = length l.rest
