use Rattle.std.proofs.Common.{subst}
use Rattle.std.proofs.lemmas.Result.{IfOk-weaker}
use Rattle.prime_field.specs.Primes.{IsPrime}
use Rattle.polys.specs.Poly.{terms_of}
use Rattle.jacobian_pick.specs.Candidates.{variable_sums_of}
use Rattle.problem.specs.Problem.{problem_data}
use Rattle.jacobian_pick.proofs.Listings.{over, kept_of}
use Rattle.jacobian_pick.proofs.listing.third_list.Goals as goal

pub kept-requires-clause-over : goal.kept-requires-clause-over
kept-requires-clause-over c =
    over c.args.problem.now (subst IsPrime c.get-prime.ensures.value c.get-prime.ensures.prime) 119 c.in_ok-raw.raw c.as_slice.result.now c.in_ok-raw.ensures.low c.as_slice.ensures

pub returns-clause-low : goal.returns-clause-low
returns-clause-low c =
    IfOk-weaker c.kept.result _ _ (λ ms x. x.0)
    (kept_of c.args.problem.now (subst IsPrime c.get-prime.ensures.value c.get-prime.ensures.prime) 119 (variable_sums_of (problem_data c.args.problem.now) (terms_of c.args.first.now)) c.in_ok-raw.raw c.as_slice.result.now c.kept.result
    c.in_ok-raw.ensures.low c.in_ok-raw.ensures.exact c.as_slice.ensures c.kept.ensures.primes c.kept.ensures.kept)

pub returns-clause-exact : goal.returns-clause-exact
returns-clause-exact c =
    IfOk-weaker c.kept.result _ _ (λ ms x. x.1)
    (kept_of c.args.problem.now (subst IsPrime c.get-prime.ensures.value c.get-prime.ensures.prime) 119 (variable_sums_of (problem_data c.args.problem.now) (terms_of c.args.first.now)) c.in_ok-raw.raw c.as_slice.result.now c.kept.result
    c.in_ok-raw.ensures.low c.in_ok-raw.ensures.exact c.as_slice.ensures c.kept.ensures.primes c.kept.ensures.kept)
