use Rattle.std.proofs.Common.{◌≡◌, ◌-◌, [], length}
use Rattle.std.specs.List.{AllByRecursion}
use Rattle.problem_form.specs.Tokens.{tokens}
use Rattle.problem.specs.Problem.{IsFit}
use Rattle.singular_text.specs.Checks.{points_at}
use Rattle.singular_text.proofs.reading.points.Given as goal

abbrev pub invariant-loop : goal.invariant-loop
invariant-loop l = record {
  same : points_at l.ground.prime l.ground.letters l.at (l.count - l.counter) (tokens l.rest) ≡ points_at l.ground.prime l.ground.letters [] l.count (tokens l.text);
  fit : AllByRecursion (AllByRecursion (IsFit l.ground.prime (length l.ground.letters))) l.at;
}
