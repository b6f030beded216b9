use Rattle.std.proofs.lemmas.Result.{IfOk-weaker, err_from_is_err_and}
use Rattle.norm_core.proofs.InputLemmas.{fault-refused, problem-told, problem-refused, problem-has_status, problem-of_answer}
use Rattle.norm_core.proofs.answering.answer_to.Goals as goal

pub returns-in_err-problem-clause-refused : goal.returns-in_err-problem-clause-refused
returns-in_err-problem-clause-refused c =
    let e = err_from_is_err_and c.from_residual.result c.from_residual.ensures.1 in
    let read = c.in_err-problem.ensures in
    fault-refused c.args.cap c.args.limit c.args.input.now c.in_err-problem.field-0.0 c.from_residual.result e.0 e.1 e.2 c.requires.short read.syntax read.spelled read.exact

pub returns-clause-answered : goal.returns-clause-answered
returns-clause-answered c =
    let read = c.in_ok-problem.ensures in
    IfOk-weaker c.solve.result _ _
    (λ text solves. problem-told c.args.cap c.args.limit c.args.input.now c.in_ok-problem.problem 0 text c.requires.short (read.spelled tt) read.exact solves)
    c.solve.ensures.answered

pub returns-clause-refused : goal.returns-clause-refused
returns-clause-refused c =
    let read = c.in_ok-problem.ensures in
    problem-refused c.args.cap c.args.limit c.args.input.now c.in_ok-problem.problem c.solve.result c.requires.short (read.spelled tt) read.exact c.solve.ensures.refused

pub returns-clause-exact : goal.returns-clause-exact
returns-clause-exact c =
    let read = c.in_ok-problem.ensures in
    problem-has_status c.args.cap c.args.limit c.args.input.now c.in_ok-problem.problem c.solve.result c.requires.short (read.spelled tt) read.exact c.solve.ensures.exact

pub returns-clause-complete : goal.returns-clause-complete
returns-clause-complete c =
    let read = c.in_ok-problem.ensures in
    problem-of_answer c.args.cap c.args.limit c.args.input.now c.in_ok-problem.problem c.solve.result read.exact c.solve.ensures.complete
