use Rattle.std.proofs.Common.{◌≡◌, ◌+◌, ◌*◌, length}
use Rattle.digit_plan.specs.Planned.{AreFirstProducts}
use Rattle.digit_plan.proofs.rules.push_products.Given as goal

abbrev pub invariant-loop-i : goal.invariant-loop-i
invariant-loop-i l = record {
  count : length l.products ≡ l.v * length l.corners + l.i;
  each : AreFirstProducts l.corners l.border l.products;
}
