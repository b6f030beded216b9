use Rattle.std.proofs.Common.{subst}
use Rattle.prime_field.specs.Primes.{IsPrime}
use Rattle.module_basis.proofs.Chaining.{linked}
use Rattle.module_basis.proofs.pairs.is_link.Goals as goal

pub returns : goal.returns
returns c = λ h.
    linked c.args.gens.now c.args.basis.now c.args.pair c.args.k c.index-basis-k.result c.lead_mono.result c.args.m.now (subst IsPrime c.get-prime.ensures.value c.get-prime.ensures.prime)
    c.requires.grown c.requires.pair c.requires.inside c.index-basis-k.is c.lead_mono.ensures c.requires.common (c.divides.ensures.0 c.if-not-divides.false)
    (c.is_settled.ensures c.if-not-is_settled.false) (c.is_settled-2.ensures h)
