use Rattle.std.proofs.Common.{subst}
use Rattle.std.proofs.lemmas.Result.{IfOk-weaker}
use Rattle.prime_field.specs.Primes.{IsPrime}
use Rattle.polys.specs.Poly.{terms_of}
use Rattle.jacobian_pick.specs.Candidates.{variable_sums_of}
use Rattle.problem.specs.Problem.{problem_data}
use Rattle.jacobian_pick.proofs.Listings.{raw_known, six_up_to, third_raw}
use Rattle.jacobian_pick.proofs.listing.variable_sums.Goals as goal

pub sums_by_variables-requires-clause-members : goal.sums_by_variables-requires-clause-members
sums_by_variables-requires-clause-members c =
    six_up_to c.args.problem.now (subst IsPrime c.get-prime.ensures.value c.get-prime.ensures.prime) c.variables_of.result c.args.first.now c.six.result.now c.variables_of.ensures.value c.six.ensures c.requires

pub returns-clause-low : goal.returns-clause-low
returns-clause-low c =
    let prime = subst IsPrime c.get-prime.ensures.value c.get-prime.ensures.prime in
    IfOk-weaker c.sums_by_variables.result _ _
    (λ fs e. (raw_known c.args.problem.now prime 119 (variable_sums_of (problem_data c.args.problem.now) (terms_of c.args.first.now)) fs
    (third_raw c.args.problem.now prime c.variables_of.result c.args.first.now c.six.result.now fs c.variables_of.ensures.value c.requires c.six.ensures e)).0) c.sums_by_variables.ensures

pub returns-clause-exact : goal.returns-clause-exact
returns-clause-exact c =
    let prime = subst IsPrime c.get-prime.ensures.value c.get-prime.ensures.prime in
    IfOk-weaker c.sums_by_variables.result _ _
    (λ fs e. (raw_known c.args.problem.now prime 119 (variable_sums_of (problem_data c.args.problem.now) (terms_of c.args.first.now)) fs
    (third_raw c.args.problem.now prime c.variables_of.result c.args.first.now c.six.result.now fs c.variables_of.ensures.value c.requires c.six.ensures e)).1) c.sums_by_variables.ensures
