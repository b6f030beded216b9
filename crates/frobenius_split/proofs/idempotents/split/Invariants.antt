use Rattle.std.proofs.Common.{List, ℕ, ◌++◌, drop, All}
use Rattle.frobenius_split.specs.Idempotents.{AreIdempotents, IsNumberAt}
use Rattle.frobenius_split.proofs.idempotents.split.Given as goal

abbrev pub invariant-loop-i : goal.invariant-loop-i
invariant-loop-i l = record {
  whole : AreIdempotents l.a (l.found ++ drop l.i l.es);
  numbers : All (IsNumberAt l.a l.u) l.found;
  keeps : (v : List ℕ) → All (IsNumberAt l.a v) l.es → All (IsNumberAt l.a v) l.found;
}
