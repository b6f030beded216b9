use Rattle.std.proofs.Common.{◌≡◌, ℕ, ◌<◌, [], length, slice_index_or}
use Rattle.digit_space.specs.Model.{IsDigitsOf}
use Rattle.digit_space.specs.Adding.{corner_multiple}
use Rattle.digit_space.proofs.digits.Digits.multiples.Given as goal

abbrev pub invariant-loop-i : goal.invariant-loop-i
invariant-loop-i l = record {
  count : length l.rows ≡ l.i;
  rows : (k : ℕ) → k < l.i → IsDigitsOf l.self (corner_multiple l.self l.row k) (slice_index_or l.rows k []);
}
