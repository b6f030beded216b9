use Rattle.std.proofs.Common.{length}
use Rattle.problem_form.specs.Tokens.{tokens}
use Rattle.problem.specs.Problem.{IsFit}
use Rattle.singular_text.proofs.Statements.{popped, popped_fits, denominator_is}
use Rattle.singular_text.proofs.reading.denominator.Goals as goal

pub returns-clause-exact : goal.returns-clause-exact
returns-clause-exact c =
    denominator_is c.args.ground.now.prime c.args.ground.now.letters (tokens c.args.text.now) (tokens c.in-Some.behind.now) (tokens c.in_ok-values.rest.now) c.in_ok-values.values c.pop.result
    c.in-Some.ensures c.in_ok-values.ensures.exact
    (popped c.in_ok-values.values c.into_vec.result.items c.pop.new.self.items c.pop.result _ _ _ c.into_vec.ensures c.pop.ensures.items c.pop.ensures.rest c.pop.ensures.cases)

pub returns-clause-fit : goal.returns-clause-fit
returns-clause-fit c =
    popped_fits (IsFit c.args.ground.now.prime (length c.args.ground.now.letters)) c.in_ok-values.values c.into_vec.result.items c.pop.new.self.items c.pop.result c.into_vec.ensures c.pop.ensures.items
    c.in_ok-values.ensures.fit
