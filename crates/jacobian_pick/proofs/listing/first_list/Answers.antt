use Rattle.std.proofs.Common.{refl, subst}
use Rattle.std.proofs.lemmas.Result.{IfOk-weaker}
use Rattle.prime_field.specs.Primes.{IsPrime}
use Rattle.jacobian_pick.specs.Candidates.{jacobian_of}
use Rattle.problem.specs.Problem.{problem_data}
use Rattle.jacobian_pick.proofs.Listings.{over, kept_of}
use Rattle.jacobian_pick.proofs.listing.first_list.Goals as goal

pub kept-requires-clause-over : goal.kept-requires-clause-over
kept-requires-clause-over c =
    over c.args.problem.now (subst IsPrime c.get-prime.ensures.value c.get-prime.ensures.prime) 118 c.args.entries.now c.args.entries.now c.requires.low refl

pub returns-clause-low : goal.returns-clause-low
returns-clause-low c =
    IfOk-weaker c.kept.result _ _ (λ ms x. x.0)
    (kept_of c.args.problem.now (subst IsPrime c.get-prime.ensures.value c.get-prime.ensures.prime) 118 (jacobian_of (problem_data c.args.problem.now)) c.args.entries.now c.args.entries.now c.kept.result
    c.requires.low c.requires.exact refl c.kept.ensures.primes c.kept.ensures.kept)

pub returns-clause-exact : goal.returns-clause-exact
returns-clause-exact c =
    IfOk-weaker c.kept.result _ _ (λ ms x. x.1)
    (kept_of c.args.problem.now (subst IsPrime c.get-prime.ensures.value c.get-prime.ensures.prime) 118 (jacobian_of (problem_data c.args.problem.now)) c.args.entries.now c.args.entries.now c.kept.result
    c.requires.low c.requires.exact refl c.kept.ensures.primes c.kept.ensures.kept)
