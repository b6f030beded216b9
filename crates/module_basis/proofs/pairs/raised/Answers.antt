use Rattle.std.proofs.Common.{◌≡◌, ◌∷◌, [], ap, ◌∙◌}
use Rattle.polys.specs.Terms.{mul}
use Rattle.polys.specs.Poly.{Polynomial}
use Rattle.monomials.specs.Mono.{IsMono}
use Rattle.graded_modules.specs.Vector.{lead_mono}
use Rattle.graded_modules.specs.SVector.{cofactor}
use Rattle.module_basis.proofs.Pairing.{quotient_is}
use Rattle.module_division.proofs.Steps.{divisor_room}
use Rattle.module_division.proofs.Reductions.{lead_seven}
use Rattle.monomials.proofs.Order.{times_comm}
use Rattle.module_basis.proofs.pairs.raised.Goals as goal

pub mul_term-requires-clause-room : goal.mul_term-requires-clause-room
mul_term-requires-clause-room c =
    λ _. divisor_room c.args.p c.args.f.now c.quotient-cofactor.result c.args.m.now c.requires.divisor c.requires.mono
    (times_comm (lead_mono c.args.f.now.terms) c.quotient-cofactor.result ∙ rw c.lead_mono.ensures at c.quotient-cofactor.ensures.value)

pub returns-clause-value : goal.returns-clause-value
returns-clause-value c =
    let f = c.args.f.now in
    let p = c.args.p in
    let l = lead_mono f.terms in
    let q : c.quotient-cofactor.result ≡ cofactor l c.args.m.now =
    quotient_is l c.args.m.now c.quotient-cofactor.result (lead_seven IsMono f.terms (λ m k. k.seven) c.requires.divisor.vector.monos) c.requires.mono c.quotient-cofactor.ensures.known c.requires.divides
    (rw c.lead_mono.ensures at c.quotient-cofactor.ensures.value) in
    ap (λ (g : Polynomial). g.terms) c.in_ok-multiple.ensures
    ∙ (λ i. mul (c.requires.divisor.prime i) f.terms (record { coeff = 1; mono = q i } ∷ []))
