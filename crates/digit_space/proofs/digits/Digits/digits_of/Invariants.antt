use Rattle.std.proofs.Common.{◌≤◌, length, drop}
use Rattle.digit_space.specs.Model.{IsDigitsOf}
use Rattle.digit_space.proofs.digits.Digits.digits_of.Given as goal

abbrev pub invariant-loop-k : goal.invariant-loop-k
invariant-loop-k l = record {
  within : l.k ≤ length l.terms;
  digits : IsDigitsOf l.self (drop l.k l.terms) l.out.items;
}

abbrev pub decreases-loop-k : goal.decreases-loop-k
decreases-loop-k l = l.k
