use Rattle.std.proofs.Common.{◌≡◌, ◌<◌, subst, arith}
use Rattle.prime_field.specs.Primes.{IsPrime}
use Rattle.jacobian_pick.specs.declared.choosing.PickStop.TheVariants.{Memory}
use Rattle.jacobian_pick.proofs.Choices.{found_alone, passed_alone, tried_low, not_true}
use Rattle.jacobian_pick.proofs.choosing.good.Goals as goal

pub tried-requires-clause-denominator : goal.tried-requires-clause-denominator
tried-requires-clause-denominator c =
    let pos : 0 < c.args.problem.now.prime = (let h = (subst IsPrime c.get-prime.ensures.value c.get-prime.ensures.prime).0 in omega arith) in
    (tried_low c.args.problem.now c.args.cap c.args.f.now c.in_ok-monic.monic pos c.requires.low
    (λ i. not_true c.in_ok-is_member.field-0 c.if-branch.false (c.in_ok-is_member.ensures.1 i)) c.in_ok-monic.ensures.prime c.in_ok-monic.ensures.monic).over

pub returns-in-Ok-clause-found : goal.returns-in-Ok-clause-found
returns-in-Ok-clause-found c =
    let pos : 0 < c.args.problem.now.prime = (let h = (subst IsPrime c.get-prime.ensures.value c.get-prime.ensures.prime).0 in omega arith) in
    found_alone c.args.problem.now c.args.cap c.args.f.now c.in_ok-monic.monic pos c.requires.low
    (λ i. not_true c.in_ok-is_member.field-0 c.if-branch.false (c.in_ok-is_member.ensures.1 i)) c.in_ok-monic.ensures.prime c.in_ok-monic.ensures.monic
    c.in-Ok.lifted c.in-Ok.ensures.lifted c.in-Ok.ensures.known c.in-Ok.ensures.denominator c.in-Ok.ensures.good

pub returns-clause-none : goal.returns-clause-none
returns-clause-none c =
    let pos : 0 < c.args.problem.now.prime = (let h = (subst IsPrime c.get-prime.ensures.value c.get-prime.ensures.prime).0 in omega arith) in
    λ e. passed_alone c.args.problem.now c.args.cap c.args.f.now c.in_ok-monic.monic pos c.requires.low
    (λ i. not_true c.in_ok-is_member.field-0 c.if-branch.false (c.in_ok-is_member.ensures.1 i)) c.in_ok-monic.ensures.prime c.in_ok-monic.ensures.monic
    c.in-Err.stop (λ (q : c.in-Err.stop ≡ Memory). grind (arith, q, c.if-eq.ensures)) c.in-Err.ensures.reason
