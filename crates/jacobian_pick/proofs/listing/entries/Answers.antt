use Rattle.std.proofs.Common.{subst}
use Rattle.std.proofs.lemmas.Result.{IfOk-weaker}
use Rattle.prime_field.specs.Primes.{IsPrime}
use Rattle.jacobian_pick.specs.Candidates.{jacobian_of}
use Rattle.problem.specs.Problem.{problem_data}
use Rattle.jacobian_pick.proofs.Listings.{raw_known, first_raw}
use Rattle.jacobian_pick.proofs.listing.entries.Goals as goal

pub returns-clause-low : goal.returns-clause-low
returns-clause-low c =
    let prime = subst IsPrime c.get-prime.ensures.value c.get-prime.ensures.prime in
    IfOk-weaker c.jacobian.result _ _
    (λ fs e. (raw_known c.args.problem.now prime 118 (jacobian_of (problem_data c.args.problem.now)) fs
    (first_raw c.args.problem.now prime c.variables_of.result c.as_slice.result.now fs c.requires.ready c.variables_of.ensures.value c.as_slice.ensures e)).0) c.jacobian.ensures

pub returns-clause-exact : goal.returns-clause-exact
returns-clause-exact c =
    let prime = subst IsPrime c.get-prime.ensures.value c.get-prime.ensures.prime in
    IfOk-weaker c.jacobian.result _ _
    (λ fs e. (raw_known c.args.problem.now prime 118 (jacobian_of (problem_data c.args.problem.now)) fs
    (first_raw c.args.problem.now prime c.variables_of.result c.as_slice.result.now fs c.requires.ready c.variables_of.ensures.value c.as_slice.ensures e)).1) c.jacobian.ensures
