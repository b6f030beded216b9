use Rattle.std.proofs.Common.{◌≡◌, ◌≤◌, ◌+◌, max, drop}
use Rattle.problem_form.specs.Words.{leading_digits, digits_in}
use Rattle.problem_form.proofs.words.digits_in.Given as goal

abbrev pub invariant-loop-byte : goal.invariant-loop-byte
invariant-loop-byte l = record {
  most : max l.most (max (l.count + leading_digits (drop l.byte-index l.token)) (digits_in (drop l.byte-index l.token))) ≡ digits_in l.token;
  counted : l.count ≤ l.most;
  within : l.count ≤ l.byte-index;
}
