use Rattle.std.proofs.Common.{◌≡◌, ◌<◌, ℕ, [], length, get_or, All}
use Rattle.comm_ring.specs.Ring.{pow}
use Rattle.finite_algebra.specs.Elements.{IsElement, elements, ring_of, times}
use Rattle.frobenius_split.proofs.polynomials.powers_at.Given as goal

abbrev pub invariant-loop-exponent : goal.invariant-loop-exponent
invariant-loop-exponent l = record {
  prime : l.seen.prime ≡ l.a.prime;
  width : l.seen.width ≡ l.a.dimension;
  element : IsElement l.a l.power;
  rows : All (IsElement l.a) l.rows;
  power : (elements l.a).◌≋◌ l.power (times l.a (pow (ring_of l.a) l.u (length l.rows)) l.e);
  powers : (i : ℕ) → i < length l.rows → (elements l.a).◌≋◌ (get_or l.rows i []) (times l.a (pow (ring_of l.a) l.u i) l.e);
}
