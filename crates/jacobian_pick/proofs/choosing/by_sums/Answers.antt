use Rattle.std.proofs.Common.{refl, sym, subst, ◌∙◌, ap}
use Rattle.std.specs.Prelude.{IfSome, IsNone}
use Rattle.std.specs.List.{All}
use Rattle.polys.specs.Poly.{terms_of}
use Rattle.problem.specs.Problem.{problem_data}
use Rattle.jacobian_pick.specs.Candidates.{number_sums_of, variable_sums_of}
use Rattle.jacobian_pick.specs.Choice.{IsPassedOver, IsFirstGood, IsFound}
use Rattle.jacobian_pick.proofs.Choices.{picked_by_sums, no_denominator, found_more, first_in_front, first_behind}
use Rattle.jacobian_pick.proofs.choosing.by_sums.Goals as goal

pub returns-in-Some-clause-found : goal.returns-in-Some-clause-found
returns-in-Some-clause-found c =
    let problem = problem_data c.args.problem.now in
    let first = terms_of c.in_ok-first.first in
    let by_numbers = number_sums_of problem first in
    let by_variables = variable_sums_of problem first in
    picked_by_sums c.args.problem.now c.args.cap c.requires.none first c.in_ok-first.ensures.exact
    (subst (All (IsPassedOver problem c.args.cap)) c.requires.exact c.requires.passed) c.in-Some.lifted
    (found_more problem c.args.cap (IsFirstGood problem c.args.cap by_numbers) (IsFirstGood problem c.args.cap _) c.in-Some.lifted
    (λ d h. first_in_front problem c.args.cap by_numbers by_variables d h)
    (subst (λ w. IsFound problem (IsFirstGood problem c.args.cap w) c.in-Some.lifted)
    (ap terms_of c.as_slice-2.ensures ∙ c.in_ok-sums.ensures.exact ∙ ap (λ w. number_sums_of problem (terms_of w)) c.as_slice.ensures)
    (subst (λ o. IfSome o (λ l. IsFound problem (IsFirstGood problem c.args.cap (terms_of c.as_slice-2.result.now)) l)) c.in-Some.is c.in_ok-lifted.ensures.found)))

pub returns-in-Some-2-clause-found : goal.returns-in-Some-2-clause-found
returns-in-Some-2-clause-found c =
    let problem = problem_data c.args.problem.now in
    let first = terms_of c.in_ok-first.first in
    let by_numbers = number_sums_of problem first in
    let by_variables = variable_sums_of problem first in
    picked_by_sums c.args.problem.now c.args.cap c.requires.none first c.in_ok-first.ensures.exact
    (subst (All (IsPassedOver problem c.args.cap)) c.requires.exact c.requires.passed) c.in-Some-2.lifted
    (found_more problem c.args.cap (IsFirstGood problem c.args.cap by_variables) (IsFirstGood problem c.args.cap _) c.in-Some-2.lifted
    (λ d h.
    first_behind problem c.args.cap by_numbers by_variables d
    (subst (All (IsPassedOver problem c.args.cap))
    (ap terms_of c.as_slice-2.ensures ∙ c.in_ok-sums.ensures.exact ∙ ap (λ w. number_sums_of problem (terms_of w)) c.as_slice.ensures)
    (c.in_ok-lifted.ensures.none (subst IsNone (sym c.in-None.is) refl))) h)
    (subst (λ w. IsFound problem (IsFirstGood problem c.args.cap w) c.in-Some-2.lifted)
    (ap terms_of c.as_slice-4.ensures ∙ c.in_ok-others.ensures.exact ∙ ap (λ w. variable_sums_of problem (terms_of w)) c.as_slice-3.ensures)
    (subst (λ o. IfSome o (λ l. IsFound problem (IsFirstGood problem c.args.cap (terms_of c.as_slice-4.result.now)) l)) c.in-Some-2.is c.in_ok-lifted-2.ensures.found)))

pub returns-clause-cause : goal.returns-clause-cause
returns-clause-cause c =
    let problem = problem_data c.args.problem.now in (
      c.requires.proper,
      no_denominator c.args.problem.now c.args.cap c.requires.none (terms_of c.in_ok-first.first) c.in_ok-first.ensures.exact
          (subst (All (IsPassedOver problem c.args.cap)) c.requires.exact c.requires.passed)
          (subst (All (IsPassedOver problem c.args.cap))
          (ap terms_of c.as_slice-2.ensures ∙ c.in_ok-sums.ensures.exact ∙ ap (λ w. number_sums_of problem (terms_of w)) c.as_slice.ensures)
          (c.in_ok-lifted.ensures.none (subst IsNone (sym c.in-None.is) refl)))
          (subst (All (IsPassedOver problem c.args.cap))
          (ap terms_of c.as_slice-4.ensures ∙ c.in_ok-others.ensures.exact ∙ ap (λ w. variable_sums_of problem (terms_of w)) c.as_slice-3.ensures)
          (c.in_ok-lifted-2.ensures.none (subst IsNone (sym c.in-None-2.is) refl))),
    )
