-- Of the lines so far those with a delta above 0 are kept.
use Rattle.std.proofs.Common.{◌≡◌}
use Rattle.curve_answer.specs.Reading.{with_delta}
use Rattle.curve_answer.proofs.reading.without_zeros.Given as goal

abbrev pub invariant-loop-line : goal.invariant-loop-line
invariant-loop-line l = l.rest ≡ with_delta l.yielded
