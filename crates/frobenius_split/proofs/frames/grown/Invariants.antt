use Rattle.std.proofs.Common.{◌≡◌, [], get_or}
use Rattle.finite_algebra.specs.Elements.{IsElement, elements, times}
use Rattle.frobenius_split.specs.Frames.{IsFrame}
use Rattle.frobenius_split.proofs.frames.grown.Given as goal

abbrev pub invariant-loop-exponent : goal.invariant-loop-exponent
invariant-loop-exponent l = record {
  frame : IsFrame l.a l.es l.frame.rows l.frame.numbers;
  prime : l.space.prime ≡ l.a.prime;
  width : l.space.width ≡ l.a.dimension;
  row : IsElement l.a l.row;
  inside : (elements l.a).◌≋◌ (times l.a l.row (get_or l.es l.k [])) l.row;
}
