use Rattle.std.proofs.Common.{◌≡◌}
use Rattle.frobenius_split.specs.Frames.{IsFrame}
use Rattle.frobenius_split.proofs.frames.first_frame.Given as goal

abbrev pub invariant-loop-k : goal.invariant-loop-k
invariant-loop-k l = record {
  frame : IsFrame l.a l.es l.frame.rows l.frame.numbers;
  prime : l.space.prime ≡ l.a.prime;
  width : l.space.width ≡ l.a.dimension;
}
