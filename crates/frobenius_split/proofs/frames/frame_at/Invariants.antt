use Rattle.std.proofs.Common.{◌≡◌}
use Rattle.frobenius_split.specs.Frames.{IsFrame}
use Rattle.frobenius_split.proofs.frames.frame_at.Given as goal

abbrev pub invariant-loop-seed : goal.invariant-loop-seed
invariant-loop-seed l = record {
  frame : IsFrame l.a l.es l.frame.rows l.frame.numbers;
  prime : l.space.prime ≡ l.a.prime;
  width : l.space.width ≡ l.a.dimension;
}
