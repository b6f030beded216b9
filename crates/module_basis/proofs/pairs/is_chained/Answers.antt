use Rattle.std.proofs.Common.{ap, sym, ◌∙◌, arith}
use Rattle.monomials.specs.Mono.{common_multiple}
use Rattle.graded_modules.specs.Vector.{lead_mono}
use Rattle.module_division.proofs.Lists.{count_lists, member_is}
use Rattle.module_basis.proofs.Pairing.{total_max, low_lead}
use Rattle.module_basis.proofs.pairs.is_chained.Goals as goal

pub lcm-m-requires-clause-room : goal.lcm-m-requires-clause-room
lcm-m-requires-clause-room c =
    let gens = c.args.gens.now in
    let fs = c.args.basis.now in
    let q = c.args.pair in
    let n = count_lists fs in
    let r = c.requires.pair.rising in
    let i = c.requires.pair.inside in
    let low = c.requires.low in
    let a = low_lead gens q.degree fs q.first c.index-basis-pair.result c.requires.grown (omega arith) c.index-basis-pair.is in
    let b = low_lead gens q.degree fs q.second c.index-basis-pair-2.result c.requires.grown (omega arith) c.index-basis-pair-2.is in
    rw (c.lead_mono.ensures, c.lead_mono-2.ensures)
    (omega (arith, total_max (lead_mono c.index-basis-pair.result.terms).exponents (lead_mono c.index-basis-pair-2.result.terms).exponents))

pub is_link-requires-clause-common : goal.is_link-requires-clause-common
is_link-requires-clause-common c =
    let fs = c.args.basis.now in
    let q = c.args.pair in
    let n = count_lists fs in
    let r = c.requires.pair.rising in
    let i = c.requires.pair.inside in
    let mi = member_is fs q.first c.index-basis-pair.result (omega arith) c.index-basis-pair.is in
    let mj = member_is fs q.second c.index-basis-pair-2.result (omega arith) c.index-basis-pair-2.is in
    let a = c.lead_mono.ensures ∙ ap lead_mono (sym mi) in
    let b = c.lead_mono-2.ensures ∙ ap lead_mono (sym mj) in
    c.lcm-m.ensures.value ∙ (λ k. common_multiple (a k) (b k))
