use Rattle.std.proofs.Common.{◌≡◌, ◌<◌, ◌∙◌, arith, ap, subst, sym}
use Rattle.finite_algebra.specs.Elements.{FiniteAlgebra, IsElement, times, unit_row}
use Rattle.finite_algebra.proofs.Multiplication.{range_product}
use Rattle.finite_algebra.proofs.Products.{times_fits}
use Rattle.finite_algebra.proofs.algebra.Algebra.basis_multiple.Goals as goal

pub returns-clause-element : goal.returns-clause-element
returns-clause-element c =
    let s = c.self.inside in
    let A : FiniteAlgebra = record { prime = s.prime; dimension = s.dimension; one = s.one; products = s.products.items } in
    let positive : 0 < s.prime = omega (arith, c.get-p.ensures.range, c.get-p.ensures.value) in
    let inside : c.args.k < s.dimension = omega (arith, c.requires.k, ap (λ (v : FiniteAlgebra). v.dimension) c.self.view_is) in
    subst (λ (v : FiniteAlgebra). IsElement v c.in_ok-row.row) c.self.view_is
    (subst (IsElement A) (sym (c.in_ok-row.ensures ∙ range_product A positive c.args.x.now c.args.k inside c.deref.result.now c.deref.ensures.value c.self.invariant.count)) (times_fits A positive (unit_row s.dimension c.args.k) c.args.x.now))

pub returns-clause-product : goal.returns-clause-product
returns-clause-product c =
    let s = c.self.inside in
    let A : FiniteAlgebra = record { prime = s.prime; dimension = s.dimension; one = s.one; products = s.products.items } in
    let positive : 0 < s.prime = omega (arith, c.get-p.ensures.range, c.get-p.ensures.value) in
    let inside : c.args.k < s.dimension = omega (arith, c.requires.k, ap (λ (v : FiniteAlgebra). v.dimension) c.self.view_is) in
    subst (λ (v : FiniteAlgebra). c.in_ok-row.row ≡ times v (unit_row v.dimension c.args.k) c.args.x.now) c.self.view_is
    (c.in_ok-row.ensures ∙ range_product A positive c.args.x.now c.args.k inside c.deref.result.now c.deref.ensures.value c.self.invariant.count)
