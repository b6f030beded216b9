use Rattle.std.proofs.Common.{◌≡◌, ◌*◌, length}
use Rattle.digit_plan.specs.Planned.{AreFirstProducts}
use Rattle.digit_plan.proofs.rules.products_of.Given as goal

abbrev pub invariant-loop-v : goal.invariant-loop-v
invariant-loop-v l = record {
  count : length l.products ≡ l.v * length l.corners;
  each : AreFirstProducts l.corners l.border l.products;
}
