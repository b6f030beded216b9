use Rattle.std.proofs.Common.{subst}
use Rattle.prime_field.specs.Primes.{IsPrime}
use Rattle.jacobian_pick.proofs.Memberships.{is_nil, decides}
use Rattle.jacobian_pick.proofs.membership.is_member.Goals as goal

pub returns : goal.returns
returns c =
    let n = is_nil c.in_ok-rest.rest.terms c.lead.result c.is_none.result c.lead.ensures c.is_none.ensures in
    let d = decides c.args.problem.now c.args.basis.now c.variables_of.result c.args.f.now c.in_ok-rest.rest (subst IsPrime c.get-prime.ensures.value c.get-prime.ensures.prime) c.requires.basis c.requires.over
    c.variables_of.ensures.value c.in_ok-rest.ensures.remainder
    in
    (λ z. d.0 (n.0 z), λ z. n.1 (d.1 z))
