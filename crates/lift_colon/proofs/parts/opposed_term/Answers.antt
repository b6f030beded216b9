use Rattle.std.proofs.Common.{ap, ◌∙◌, arith}
use Rattle.monomials.specs.Mono.{Monomial}
use Rattle.monomials.proofs.Exponents.{total_degree-set}
use Rattle.lift_colon.proofs.Quotients.{opposite}
use Rattle.lift_colon.proofs.parts.opposed_term.Goals as goal

pub with_hom-requires : goal.with_hom-requires
with_hom-requires c =
    let k = c.degree-degree.ensures.known.seven in
    let b = c.degree-degree.ensures.known.bounded in
    let s = total_degree-set c.args.t.now.mono.exponents 6 0 (omega arith) in
    omega arith

pub returns : goal.returns
returns c =
    let e = c.neg.ensures.opposite ∙ opposite c.args.p c.args.t.now.coeff c.requires.residue in
    let m = c.with_component.ensures.value ∙ ap (λ (w : Monomial). record { exponents = w.exponents; component = 0 }) c.with_hom.ensures.value in
    λ i. record { coeff = e i; mono = m i }
