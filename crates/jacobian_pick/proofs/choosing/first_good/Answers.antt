use Rattle.std.proofs.Common.{refl, sym, subst}
use Rattle.std.specs.Prelude.{IfSome, IsNone}
use Rattle.std.specs.List.{All}
use Rattle.std.proofs.lemmas.List.{take_all}
use Rattle.polys.specs.Poly.{terms_of}
use Rattle.jacobian_pick.specs.Choice.{IsPassedOver, IsGoodMultiple, IsFound}
use Rattle.problem.specs.Problem.{problem_data}
use Rattle.jacobian_pick.proofs.Choices.{found_at, one_more_passed}
use Rattle.jacobian_pick.proofs.choosing.first_good.Goals as goal

pub returns-clause-none : goal.returns-clause-none
returns-clause-none c =
    λ e. subst (λ w. All (IsPassedOver (problem_data c.args.problem.now) c.args.cap) (terms_of w)) (take_all c.loop-f.f-index c.args.list.now c.loop-f-test.false) c.loop-f.invariant

pub returns-in-Some-clause-found : goal.returns-in-Some-clause-found
returns-in-Some-clause-found c =
    let problem = problem_data c.args.problem.now in
    found_at problem c.args.cap c.args.list.now c.loop-f.f-index c.f-item.result c.in-Some.lifted c.loop-f-test.true c.f-item.is c.loop-f.invariant
    (subst (λ o. IfSome o (λ l. IsFound problem (IsGoodMultiple problem c.args.cap c.f-item.result.terms) l)) c.in-Some.is c.in_ok-lifted.ensures.found)

pub loop-f-preserved : goal.loop-f-preserved
loop-f-preserved c =
    one_more_passed (problem_data c.args.problem.now) c.args.cap c.args.list.now c.loop-f.f-index c.f-item.result c.loop-f-test.true c.f-item.is c.loop-f.invariant
    (c.in_ok-lifted.ensures.none (subst IsNone (sym c.in-None.is) refl))
