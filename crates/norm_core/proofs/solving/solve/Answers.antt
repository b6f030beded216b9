-- What the problem has is told.
use Rattle.std.proofs.Common.{subst}
use Rattle.std.proofs.lemmas.Result.{err_from_is_err_and}
use Rattle.prime_field.specs.Primes.{IsPrime}
use Rattle.problem.specs.Problem.{problem_data}
use Rattle.norm_core.proofs.ProblemLemmas.{no_error, cause-refused, has-picked, told-answered, told-refused, told-exact, told-complete}
use Rattle.norm_core.proofs.solving.solve.Goals as goal

pub returns-in_err-lifted-clause-refused : goal.returns-in_err-lifted-clause-refused
returns-in_err-lifted-clause-refused c =
    let e = err_from_is_err_and c.from_residual.result c.from_residual.ensures.1 in
    cause-refused (problem_data c.args.problem.now) c.args.cap c.args.limit c.in_err-lifted.field-0.0 c.from_residual.result e.0 e.1 e.2 c.in_err-lifted.ensures.cause

pub returns-clause-answered : goal.returns-clause-answered
returns-clause-answered c =
    let known = c.in_ok-lifted.ensures in
    let l = c.in_ok-lifted.lifted in
    let picked =
    has-picked c.args.problem.now c.args.cap c.args.limit l (subst IsPrime c.get-prime.ensures.value c.get-prime.ensures.prime) c.requires.fit known.lifted known.fit known.proper known.chosen
    (λ stop not cause. no_error (known.exact stop not cause)) (λ proper d chosen. known.complete proper d chosen)
    in
    told-answered (problem_data c.args.problem.now) c.args.cap c.args.limit l.denominator.terms picked c.answer_with.result c.answer_with.ensures.answered

pub returns-clause-refused : goal.returns-clause-refused
returns-clause-refused c =
    let known = c.in_ok-lifted.ensures in
    let l = c.in_ok-lifted.lifted in
    let picked =
    has-picked c.args.problem.now c.args.cap c.args.limit l (subst IsPrime c.get-prime.ensures.value c.get-prime.ensures.prime) c.requires.fit known.lifted known.fit known.proper known.chosen
    (λ stop not cause. no_error (known.exact stop not cause)) (λ proper d chosen. known.complete proper d chosen)
    in
    told-refused (problem_data c.args.problem.now) c.args.cap c.args.limit l.denominator.terms picked c.answer_with.result c.answer_with.ensures.refused

pub returns-clause-exact : goal.returns-clause-exact
returns-clause-exact c =
    let known = c.in_ok-lifted.ensures in
    let l = c.in_ok-lifted.lifted in
    let picked =
    has-picked c.args.problem.now c.args.cap c.args.limit l (subst IsPrime c.get-prime.ensures.value c.get-prime.ensures.prime) c.requires.fit known.lifted known.fit known.proper known.chosen
    (λ stop not cause. no_error (known.exact stop not cause)) (λ proper d chosen. known.complete proper d chosen)
    in
    told-exact (problem_data c.args.problem.now) c.args.cap c.args.limit l.denominator.terms picked c.answer_with.result c.answer_with.ensures.answered c.answer_with.ensures.refused

pub returns-clause-complete : goal.returns-clause-complete
returns-clause-complete c =
    let known = c.in_ok-lifted.ensures in
    let l = c.in_ok-lifted.lifted in
    let picked =
    has-picked c.args.problem.now c.args.cap c.args.limit l (subst IsPrime c.get-prime.ensures.value c.get-prime.ensures.prime) c.requires.fit known.lifted known.fit known.proper known.chosen
    (λ stop not cause. no_error (known.exact stop not cause)) (λ proper d chosen. known.complete proper d chosen)
    in
    told-complete (problem_data c.args.problem.now) c.args.cap c.args.limit l.denominator.terms picked c.answer_with.result c.answer_with.ensures.refused
