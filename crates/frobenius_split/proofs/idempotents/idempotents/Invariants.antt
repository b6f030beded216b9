use Rattle.std.proofs.Common.{◌≡◌, ◌<◌, ℕ, List, [], get_or, All}
use Rattle.comm_ring.specs.Modules.{InSpan}
use Rattle.row_space.specs.Subspace.{IsIn}
use Rattle.finite_algebra.specs.Elements.{elements}
use Rattle.frobenius_split.specs.Idempotents.{AreIdempotents, IsNumberAt}
use Rattle.frobenius_split.proofs.idempotents.idempotents.Given as goal

abbrev pub invariant-loop-k : goal.invariant-loop-k
invariant-loop-k l = record {
  whole : AreIdempotents l.a l.es;
  prime : l.whole.prime ≡ l.a.prime;
  width : l.whole.width ≡ l.a.dimension;
  members : (f : List ℕ) → IsIn l.whole f → InSpan (elements l.a) l.es f;
  numbers : (j : ℕ) → j < l.k → All (IsNumberAt l.a (get_or l.us j [])) l.es;
}
