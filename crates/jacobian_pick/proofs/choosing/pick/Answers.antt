use Rattle.std.proofs.Common.{refl, sym, subst, length}
use Rattle.std.specs.Prelude.{Err}
use Rattle.std.proofs.lemmas.Result.{IfOk-weaker, err_from_is_err_and}
use Rattle.polys.specs.Poly.{Polynomial}
use Rattle.polys.specs.Terms.{IsCanonical}
use Rattle.jacobian_pick.specs.Choice.{IsCause}
use Rattle.problem.specs.Problem.{problem_data}
use Rattle.jacobian_pick.specs.declared.choosing.PickStop.TheVariants.{Unit}
use Rattle.jacobian_pick.proofs.Choices.{fit_all, same_dimension, proper_all, proper_by, unit_by, one_over}
use Rattle.jacobian_pick.proofs.Uniqueness.{exact_answer, complete_answer, exact_refusal, complete_refusal}
use Rattle.jacobian_pick.proofs.choosing.pick.Goals as goal

pub returns-in-Some-clause-proper : goal.returns-in-Some-clause-proper
returns-in-Some-clause-proper c =
    proper_all c.args.problem.now c.args.cap c.by_hand.result
    (proper_by c.args.problem.now c.args.cap c.in_ok-one.field-0 c.in_ok-is_member.field-0 c.in_ok-basis.ensures.not_deep c.in_ok-one.ensures c.in_ok-is_member.ensures c.if-branch.false)

pub returns-in-Some-clause-fit : goal.returns-in-Some-clause-fit
returns-in-Some-clause-fit c =
    fit_all c.args.problem.now c.args.cap c.by_hand.result c.requires.ready
    (proper_by c.args.problem.now c.args.cap c.in_ok-one.field-0 c.in_ok-is_member.field-0 c.in_ok-basis.ensures.not_deep c.in_ok-one.ensures c.in_ok-is_member.ensures c.if-branch.false) c.by_hand.ensures.found

pub returns-clause-proper : goal.returns-clause-proper
returns-clause-proper c =
    proper_all c.args.problem.now c.args.cap c.by_candidates.result
    (proper_by c.args.problem.now c.args.cap c.in_ok-one.field-0 c.in_ok-is_member.field-0 c.in_ok-basis.ensures.not_deep c.in_ok-one.ensures c.in_ok-is_member.ensures c.if-branch.false)

pub returns-clause-fit : goal.returns-clause-fit
returns-clause-fit c =
    fit_all c.args.problem.now c.args.cap c.by_candidates.result c.requires.ready
    (proper_by c.args.problem.now c.args.cap c.in_ok-one.field-0 c.in_ok-is_member.field-0 c.in_ok-basis.ensures.not_deep c.in_ok-one.ensures c.in_ok-is_member.ensures c.if-branch.false) c.by_candidates.ensures.found

pub is_member-requires-clause-over : goal.is_member-requires-clause-over
is_member-requires-clause-over c =
    one_over c.args.problem.now.prime (length c.args.problem.now.letters) c.in_ok-one.field-0 c.in_ok-one.ensures
    (subst (λ (f : Polynomial). IsCanonical f.prime f.terms) c.is_member.view_is c.is_member.invariant.canonical)

pub returns-in_err-basis-clause-exact : goal.returns-in_err-basis-clause-exact
returns-in_err-basis-clause-exact c =
    let e = err_from_is_err_and c.from_residual.result c.from_residual.ensures.1 in
    exact_refusal (problem_data c.args.problem.now) c.args.cap c.from_residual.result e.0 e.1 (subst (IsCause (problem_data c.args.problem.now) c.args.cap) (sym e.2) c.in_err-basis.ensures.cause)

pub returns-in_err-basis-clause-complete : goal.returns-in_err-basis-clause-complete
returns-in_err-basis-clause-complete c =
    let e = err_from_is_err_and c.from_residual.result c.from_residual.ensures.1 in
    complete_refusal (problem_data c.args.problem.now) c.args.cap c.from_residual.result e.0 e.1 (subst (IsCause (problem_data c.args.problem.now) c.args.cap) (sym e.2) c.in_err-basis.ensures.cause)

pub returns-then-branch-clause-exact : goal.returns-then-branch-clause-exact
returns-then-branch-clause-exact c = exact_refusal (problem_data c.args.problem.now) c.args.cap (Err Unit) Unit refl (unit_by c.args.problem.now c.args.cap c.in_ok-one.field-0 c.in_ok-is_member.field-0 c.in_ok-basis.ensures.not_deep c.in_ok-one.ensures c.in_ok-is_member.ensures c.if-branch.true)

pub returns-in-Some-clause-exact : goal.returns-in-Some-clause-exact
returns-in-Some-clause-exact c =
    let p = proper_by c.args.problem.now c.args.cap c.in_ok-one.field-0 c.in_ok-is_member.field-0 c.in_ok-basis.ensures.not_deep c.in_ok-one.ensures c.in_ok-is_member.ensures c.if-branch.false in
    exact_answer (problem_data c.args.problem.now) c.args.cap c.by_hand.result p (IfOk-weaker c.by_hand.result _ _ (λ l h. h.chosen) c.by_hand.ensures.found) c.by_hand.ensures.cause

pub returns-in-Some-clause-complete : goal.returns-in-Some-clause-complete
returns-in-Some-clause-complete c =
    complete_answer (problem_data c.args.problem.now) c.args.cap c.by_hand.result (IfOk-weaker c.by_hand.result _ _ (λ l h. h.chosen) c.by_hand.ensures.found) c.by_hand.ensures.cause

pub returns-clause-exact : goal.returns-clause-exact
returns-clause-exact c =
    let p = proper_by c.args.problem.now c.args.cap c.in_ok-one.field-0 c.in_ok-is_member.field-0 c.in_ok-basis.ensures.not_deep c.in_ok-one.ensures c.in_ok-is_member.ensures c.if-branch.false in
    exact_answer (problem_data c.args.problem.now) c.args.cap c.by_candidates.result p (IfOk-weaker c.by_candidates.result _ _ (λ l h. h.chosen) c.by_candidates.ensures.found) c.by_candidates.ensures.cause

pub returns-clause-complete : goal.returns-clause-complete
returns-clause-complete c =
    complete_answer (problem_data c.args.problem.now) c.args.cap c.by_candidates.result (IfOk-weaker c.by_candidates.result _ _ (λ l h. h.chosen) c.by_candidates.ensures.found) c.by_candidates.ensures.cause

pub returns-in-Some-clause-dimension : goal.returns-in-Some-clause-dimension
returns-in-Some-clause-dimension c = same_dimension c.args.problem.now c.args.cap c.by_hand.result c.requires.ready c.by_hand.ensures.found

pub returns-clause-dimension : goal.returns-clause-dimension
returns-clause-dimension c = same_dimension c.args.problem.now c.args.cap c.by_candidates.result c.requires.ready c.by_candidates.ensures.found
