use Rattle.std.proofs.Common.{◌≡◌, ℕ, ◌+◌, ◌<◌, [], length, get_or}
use Rattle.polys.specs.Terms.{mul}
use Rattle.polys.specs.Curve.{data_of}
use Rattle.digit_laws.specs.Digits.{AreDigits, value}
use Rattle.endo_ring.proofs.narrowing.products.Given as goal

abbrev pub invariant-loop-i : goal.invariant-loop-i
invariant-loop-i l = record {
  long : length l.made ≡ l.i;
  each : (j : ℕ) → j < l.i → AreDigits (data_of l.digits.curve) l.digits.basis (l.blocks + l.blocks)
      (mul l.digits.curve.prime l.generator.terms (value (data_of l.digits.curve) l.digits.basis l.blocks (get_or l.rows j []))) (get_or l.made j []);
}
