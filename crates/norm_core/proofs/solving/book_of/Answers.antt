-- The named points are points of the curve, each once.
use Rattle.std.proofs.Common.{◌≡◌, List, rules, subst, sym}
use Rattle.polys.specs.declared.curve.Curve.{Curve}
use Rattle.curve_model.specs.declared.point.Point.{Point}
use Rattle.problem.specs.Problem.{problem_data}
use Rattle.join_book.specs.Book.{ArePointsOf}
use Rattle.norm_core.proofs.ProblemLemmas.{points-of}
use Rattle.norm_core.proofs.solving.book_of.Goals as goal

pub new-requires-clause-points : goal.new-requires-clause-points
new-requires-clause-points c =
    let curve : c.in_ok-try_clone.field-0.value ≡ c.args.digits.now.curve = search rules in
    let own : c.in_ok-own.own ≡ c.in_ok-points.points = search rules in
    let points = points-of (problem_data c.args.problem.now) c.args.digits.now.curve c.in_ok-points.points c.in_ok-points.ensures.each c.in_ok-points.ensures.named in
    subst (λ (C : Curve). ArePointsOf C c.in_ok-own.own) (sym curve) (subst (λ (Ps : List Point). ArePointsOf c.args.digits.now.curve Ps) (sym own) points)

pub worked-requires-clause-points : goal.worked-requires-clause-points
worked-requires-clause-points c =
    let curve : c.in_ok-curve.curve.value ≡ c.args.digits.now.curve = search rules in
    let points = points-of (problem_data c.args.problem.now) c.args.digits.now.curve c.in_ok-points.points c.in_ok-points.ensures.each c.in_ok-points.ensures.named in
    subst (λ (C : Curve). ArePointsOf C c.in_ok-points.points) (sym curve) points
