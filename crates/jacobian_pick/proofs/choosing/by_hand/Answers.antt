use Rattle.std.proofs.Common.{subst}
use Rattle.prime_field.specs.Primes.{IsPrime}
use Rattle.jacobian_pick.proofs.Choices.{handed_over, picked_by_hand, cause_by_hand}
use Rattle.jacobian_pick.proofs.choosing.by_hand.Goals as goal

pub tried-requires-clause-denominator : goal.tried-requires-clause-denominator
tried-requires-clause-denominator c =
    let prime = subst IsPrime c.get-prime.ensures.value c.get-prime.ensures.prime in
    (handed_over c.args.problem.now c.args.d.now c.in_ok-monic.monic prime c.requires.ready c.requires.given c.in_ok-monic.ensures.prime c.in_ok-monic.ensures.monic).0.over

pub returns-clause-found : goal.returns-clause-found
returns-clause-found c =
    let prime = subst IsPrime c.get-prime.ensures.value c.get-prime.ensures.prime in
    let h = handed_over c.args.problem.now c.args.d.now c.in_ok-monic.monic prime c.requires.ready c.requires.given c.in_ok-monic.ensures.prime c.in_ok-monic.ensures.monic in
    picked_by_hand c.args.problem.now c.args.cap c.args.d.now c.in_ok-monic.monic c.requires.given h.1 c.tried.result h.0 c.tried.ensures.lifted c.tried.ensures.known c.tried.ensures.denominator c.tried.ensures.good

pub returns-clause-cause : goal.returns-clause-cause
returns-clause-cause c =
    let prime = subst IsPrime c.get-prime.ensures.value c.get-prime.ensures.prime in
    let h = handed_over c.args.problem.now c.args.d.now c.in_ok-monic.monic prime c.requires.ready c.requires.given c.in_ok-monic.ensures.prime c.in_ok-monic.ensures.monic in
    cause_by_hand c.args.problem.now c.args.cap c.args.d.now c.in_ok-monic.monic c.requires.given h.1 c.tried.result c.requires.proper c.tried.ensures.reason
