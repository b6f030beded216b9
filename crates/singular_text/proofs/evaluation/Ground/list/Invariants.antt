use Rattle.std.proofs.Common.{◌≡◌, length, []}
use Rattle.std.specs.List.{AllByRecursion}
use Rattle.problem_form.specs.Tokens.{tokens}
use Rattle.singular_text.specs.Evaluating.{evaluate, new_frame, IsFitFrame}
use Rattle.problem.specs.Problem.{IsFit}
use Rattle.singular_text.proofs.evaluation.Ground.list.Given as goal

abbrev pub invariant-loop-token : goal.invariant-loop-token
invariant-loop-token l = record {
  same : evaluate l.self.prime l.self.letters l.values l.frame l.frames.items (tokens l.rest) ≡ evaluate l.self.prime l.self.letters [] new_frame [] (tokens l.text);
  frame : IsFitFrame l.self.prime (length l.self.letters) l.frame;
  frames : AllByRecursion (IsFitFrame l.self.prime (length l.self.letters)) l.frames.items;
  values : AllByRecursion (IsFit l.self.prime (length l.self.letters)) l.values;
}

abbrev pub decreases-loop-token : goal.decreases-loop-token
decreases-loop-token l = length l.rest
