use Rattle.std.proofs.Common.{◌≢◌, ℕ, ◌<◌}
use Rattle.std.specs.Prelude.{slice_index}
use Rattle.problem.specs.Letters.{IsLetter}
use Rattle.problem.proofs.letters.are_distinct_letters.Given as goal

abbrev pub invariant-loop-i : goal.invariant-loop-i
invariant-loop-i l = record {
  letters : (k : ℕ) → k < l.i → IsLetter (slice_index l.letters k);
  distinct : (k : ℕ) → k < l.i → (j : ℕ) → j < k → slice_index l.letters j ≢ slice_index l.letters k;
}
