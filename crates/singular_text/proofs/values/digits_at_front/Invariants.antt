use Rattle.std.proofs.Common.{◌≡◌, take, drop, ◌++◌}
use Rattle.singular_text.specs.Values.{front_digits}
use Rattle.singular_text.proofs.values.digits_at_front.Given as goal

abbrev pub invariant-loop-i : goal.invariant-loop-i
invariant-loop-i l = take l.i l.word ++ front_digits (drop l.i l.word) ≡ front_digits l.word
