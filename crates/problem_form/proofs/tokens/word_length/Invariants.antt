use Rattle.std.proofs.Common.{◌≡◌, drop, take, ◌++◌}
use Rattle.problem_form.specs.Tokens.{front_word, behind_word}
use Rattle.problem_form.proofs.tokens.word_length.Given as goal

abbrev pub invariant-loop-i : goal.invariant-loop-i
invariant-loop-i l = record {
  word : take l.i l.text ++ front_word (drop l.i l.text) ≡ front_word l.text;
  behind : behind_word (drop l.i l.text) ≡ behind_word l.text;
}
