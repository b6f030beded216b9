-- Distinct points of a fit curve are few.
use Rattle.std.proofs.Common.{◌≤◌, length, subst, sym}
use Rattle.curve_answer.proofs.Sums.{few_points}
use Rattle.curve_answer.proofs.answering.count_of.Goals as goal

pub returns-clause-few : goal.returns-clause-few
returns-clause-few c = subst (λ Ps. length Ps ≤ 256) (sym c.points.ensures) (few_points c.args.book.now c.sum-known.ensures.known)
