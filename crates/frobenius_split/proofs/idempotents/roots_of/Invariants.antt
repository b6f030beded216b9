use Rattle.std.proofs.Common.{◌<◌, ℕ, length, get_or, All}
use Rattle.prime_field.specs.Primes.{IsPrime}
use Rattle.lane_rows.specs.Rows.{AreResidues}
use Rattle.finite_algebra.specs.Elements.{IsAlgebra}
use Rattle.frobenius_split.proofs.SplitLaws.{Left}
use Rattle.frobenius_split.proofs.idempotents.roots_of.Given as goal

abbrev pub invariant-loop-c : goal.invariant-loop-c
invariant-loop-c l = record {
  residues : AreResidues l.a.prime l.roots;
  below : All (λ x. x < l.c) l.roots;
  rising : (i j : ℕ) → i < j → j < length l.roots → get_or l.roots i 0 < get_or l.roots j 0;
  left : (prime : IsPrime l.a.prime) (laws : IsAlgebra l.a) → Left l.a prime laws l.u l.e l.c l.roots;
}
