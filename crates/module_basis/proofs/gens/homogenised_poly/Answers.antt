use Rattle.std.proofs.Common.{ℕ, map, length, sym, ap, ◌∙◌, subst, arith}
use Rattle.std.proofs.lemmas.List.{take_all}
use Rattle.monomials.specs.Mono.{IsMono}
use Rattle.polys.specs.Poly.{IsVector}
use Rattle.polys.specs.Terms.{degree_of}
use Rattle.polys.proofs.Degrees.{AtMost, degree_le}
use Rattle.polys.proofs.Each.{every_more}
use Rattle.polys.proofs.Products.{degree_at}
use Rattle.homogenising.specs.Homogenised.{homogenised}
use Rattle.module_basis.specs.Gens.{lifted}
use Rattle.module_basis.proofs.Growth.{program_vector}
use Rattle.module_basis.proofs.gens.homogenised_poly.Goals as goal

pub lifted_term-lifted-requires-clause-low : goal.lifted_term-lifted-requires-clause-low
lifted_term-lifted-requires-clause-low c =
    let d = c.degree-degree.ensures in
    let h = degree_at c.terms-t-items.result.now c.loop-t.t-index c.t-item.result c.loop-t-test.true c.t-item.is in
    let e = ap degree_of c.terms-t-items.ensures.value in
    omega arith

pub lifted_term-lifted-requires-clause-bounded : goal.lifted_term-lifted-requires-clause-bounded
lifted_term-lifted-requires-clause-bounded c =
    let d = c.degree-degree.ensures in
    let h = degree_le 60000 c.args.f.now.terms (every_more IsMono (AtMost 60000) c.args.f.now.terms (λ m k. k.bounded) c.terms-t-items.ensures.known.monos) in
    omega arith

pub of_terms-requires : goal.of_terms-requires
of_terms-requires c =
    let p = c.args.prime in
    let n = c.args.variables in
    let f = c.args.f.now.terms in
    let law = c.homogenising_is_undone.ensures in
    let poly = c.requires.poly.poly in
    let n_terms = ap length c.terms-t-items.ensures.value in
    let t = c.loop-t-test.false in
    let e =
    c.loop-t.invariant
    ∙ ap (map (lifted c.degree-degree.result)) (take_all c.loop-t.t-index f (omega arith))
    ∙ ap (λ (d : ℕ). map (lifted d) f) c.degree-degree.ensures in
    let bound = degree_le 60000 f (every_more IsMono (AtMost 60000) f (λ m k. k.bounded) c.terms-t-items.ensures.known.monos) in
    subst (IsVector p) (sym e) (program_vector p n 0 (degree_of f) (homogenised f) (law.homogeneous p n f c.requires.six_variables poly).generator.vector (law.degree p n f c.requires.six_variables poly) bound)
