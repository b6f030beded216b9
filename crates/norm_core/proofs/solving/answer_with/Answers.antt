-- The line names the first point whose delta is above the limit.
use Rattle.std.proofs.Common.{inr, refl, subst}
use Rattle.curve_answer.specs.Telling.{Tells}
use Rattle.norm_core.proofs.ProblemLemmas.{above-refused}
use Rattle.norm_core.proofs.solving.answer_with.Goals as goal

pub returns-in_ok-line-in-Above-clause-refused : goal.returns-in_ok-line-in-Above-clause-refused
returns-in_ok-line-in-Above-clause-refused c =
    let above = subst (Tells c.args.problem.now c.args.lifted.denominator.terms c.args.limit) c.in-Above.is c.in_ok-answer.ensures in
    inr (refl, above-refused c.args.problem.now c.args.lifted.denominator.terms c.args.limit c.in-Above.point c.in_ok-line-in-Above.line above c.in_ok-line-in-Above.ensures)
