use Rattle.std.proofs.Common.{◌≡◌, ◌≤◌, min, drop}
use Rattle.poly_text.specs.Digits.{number, number_after}
use Rattle.singular_text.proofs.values.number_up_to.Given as goal

abbrev pub invariant-loop-digit : goal.invariant-loop-digit
invariant-loop-digit l = record {
  same : min (number_after l.sum (drop l.digit-index l.digits)) l.most ≡ min (number l.digits) l.most;
  within : l.sum ≤ l.most;
}
