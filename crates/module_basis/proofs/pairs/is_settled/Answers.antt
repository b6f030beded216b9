use Rattle.std.proofs.Common.{arith, subst}
use Rattle.prime_field.specs.Primes.{IsPrime}
use Rattle.graded_modules.specs.Vector.{lead_mono}
use Rattle.module_basis.proofs.Pairing.{total_max, low_lead}
use Rattle.module_basis.proofs.Chaining.{lower_settled, done_settled}
use Rattle.module_basis.proofs.pairs.is_settled.Goals as goal

pub lcm-m-requires-clause-room : goal.lcm-m-requires-clause-room
lcm-m-requires-clause-room c =
    let gens = c.args.gens.now in
    let fs = c.args.basis.now in
    let low = c.requires.low in
    let a = low_lead gens c.args.e fs c.args.i c.index-basis-i.result c.requires.grown c.requires.inside.0 c.index-basis-i.is in
    let b = low_lead gens c.args.e fs c.args.j c.index-basis-j.result c.requires.grown c.requires.inside.1 c.index-basis-j.is in
    rw (c.lead_mono.ensures, c.lead_mono-2.ensures) (omega (arith, total_max (lead_mono c.index-basis-i.result.terms).exponents (lead_mono c.index-basis-j.result.terms).exponents))

pub returns-then-degree_at-e : goal.returns-then-degree_at-e
returns-then-degree_at-e c = λ _.
    lower_settled c.args.gens.now c.args.e c.args.basis.now c.args.i c.args.j c.index-basis-i.result c.index-basis-j.result c.lead_mono.result c.lead_mono-2.result
    c.lcm-m.result c.degree_at.result (subst IsPrime c.get-prime.ensures.value c.get-prime.ensures.prime) c.requires.grown c.requires.inside.0 c.requires.inside.1 c.if-i-j.false c.requires.one_component
    c.index-basis-i.is c.index-basis-j.is c.lead_mono.ensures c.lead_mono-2.ensures c.lcm-m.ensures.value c.degree_at.ensures c.if-degree_at-e.true

pub returns-else-degree_at-e : goal.returns-else-degree_at-e
returns-else-degree_at-e c = λ h.
    done_settled c.args.gens.now c.args.e c.args.basis.now c.args.done.now c.args.i c.args.j c.min.result c.max.result c.min.ensures c.max.ensures (subst IsPrime c.get-prime.ensures.value c.get-prime.ensures.prime) c.requires.grown
    c.requires.inside.0 c.requires.inside.1 c.if-i-j.false c.requires.one_component c.requires.done (c.is_done.ensures h)
