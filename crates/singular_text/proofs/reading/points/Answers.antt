use Rattle.std.proofs.Common.{[], length}
use Rattle.std.specs.List.{AllByRecursion}
use Rattle.problem_form.specs.Tokens.{tokens}
use Rattle.problem.specs.Problem.{IsFit}
use Rattle.singular_text.specs.Checks.{points_at}
use Rattle.singular_text.proofs.Handing.{handed_on}
use Rattle.singular_text.proofs.Statements.{points_done, points_fault, points_on, all_pushed}
use Rattle.singular_text.proofs.reading.points.Goals as goal

pub returns-in_err-values-clause-exact : goal.returns-in_err-values-clause-exact
returns-in_err-values-clause-exact c =
    let p = c.args.ground.now.prime in
    let letters = c.args.ground.now.letters in
    handed_on _ c.from_residual.result c.in_err-values.field-0.0 _ c.from_residual.ensures.1
    (points_fault p letters c.loop.at c.args.count c.loop.counter (tokens c.loop.rest.now) (tokens c.behind_token.result.now) (points_at p letters [] c.args.count (tokens c.args.text.now)) c.loop.invariant.same
    c.in_err-values.field-0.0 c.loop-test.true c.behind_token.ensures c.in_err-values.ensures.exact)

pub loop-preserved : goal.loop-preserved
loop-preserved c =
    let p = c.args.ground.now.prime in
    let letters = c.args.ground.now.letters in
    record {
      same =
          points_on p letters c.loop.at c.args.count c.loop.counter (tokens c.loop.rest.now) (tokens c.behind_token.result.now) (points_at p letters [] c.args.count (tokens c.args.text.now)) c.loop.invariant.same
          c.in_ok-values.values c.push.new.self (tokens c.in_ok-values.after.now) c.loop-test.true c.behind_token.ensures c.in_ok-values.ensures.exact c.in_ok-push.ensures.ok;
      fit = all_pushed (AllByRecursion (IsFit p (length letters))) c.loop.at c.in_ok-values.values c.push.new.self c.in_ok-push.ensures.ok c.loop.invariant.fit c.in_ok-values.ensures.fit;
    }

pub returns-clause-exact : goal.returns-clause-exact
returns-clause-exact c =
    points_done c.args.ground.now.prime c.args.ground.now.letters c.loop.at c.args.count c.loop.counter (tokens c.loop.rest.now) [] (points_at c.args.ground.now.prime c.args.ground.now.letters [] c.args.count (tokens c.args.text.now))
    c.loop.invariant.same c.loop-test.false
