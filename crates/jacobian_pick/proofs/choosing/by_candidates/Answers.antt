use Rattle.std.proofs.Common.{refl, sym, subst, ◌∙◌, ap}
use Rattle.std.specs.Prelude.{IfSome, IsNone}
use Rattle.std.specs.List.{All}
use Rattle.polys.specs.Poly.{terms_of}
use Rattle.problem.specs.Problem.{problem_data}
use Rattle.jacobian_pick.specs.Choice.{IsPassedOver, IsFirstGood, IsFound}
use Rattle.jacobian_pick.proofs.Choices.{picked_by_entries}
use Rattle.jacobian_pick.proofs.choosing.by_candidates.Goals as goal

pub returns-in-Some-clause-found : goal.returns-in-Some-clause-found
returns-in-Some-clause-found c =
    let problem = problem_data c.args.problem.now in
    picked_by_entries c.args.problem.now c.args.cap c.requires.none c.in-Some.lifted
    (subst (λ w. IsFound problem (IsFirstGood problem c.args.cap w) c.in-Some.lifted) (ap terms_of c.as_slice.ensures ∙ c.in_ok-list.ensures.exact)
    (subst (λ o. IfSome o (λ l. IsFound problem (IsFirstGood problem c.args.cap (terms_of c.as_slice.result.now)) l)) c.in-Some.is c.in_ok-lifted.ensures.found))

pub by_sums-requires-clause-passed : goal.by_sums-requires-clause-passed
by_sums-requires-clause-passed c =
    subst (λ w. All (IsPassedOver (problem_data c.args.problem.now) c.args.cap) (terms_of w)) (c.as_slice.ensures ∙ sym c.as_slice-in-None.ensures)
    (c.in_ok-lifted.ensures.none (subst IsNone (sym c.in-None.is) refl))
