use Rattle.std.proofs.Common.{◌≡◌, ℕ, ◌+◌, ◌*◌, ◌<◌, [], length, get_or, sym, ap, ◌∙◌, subst, arith}
use Rattle.std.proofs.lemmas.List.{get_or_default}
use Rattle.polys.specs.Terms.{one, mul}
use Rattle.polys.specs.Curve.{data_of}
use Rattle.finite_algebra.specs.Elements.{FiniteAlgebra}
use Rattle.standard_monomials.specs.Standard.{polynomial_of}
use Rattle.digit_laws.specs.Digits.{AreDigits}
use Rattle.digit_space.specs.Model.{DigitData, IsDigitsOf, corner}
use Rattle.over_laws.specs.BaseIdeals.{HasCornerProducts}
use Rattle.over_laws.proofs.BaseAlgebras.{algebras_law}
use Rattle.point_quotient.specs.Algebras.{AreFirstProducts, IsBaseAlgebra}
use Rattle.point_quotient.proofs.CornerRows.{finite}
use Rattle.point_quotient.proofs.base.base_algebra.Goals as goal
use Rattle.point_quotient.proofs.base.base_algebra.Goals.{After-len}

pub push_products-requires-clause-row : goal.push_products-requires-clause-row
push_products-requires-clause-row c =
    let g = c.args.digits.now in
    let i = c.loop-i.i in
    let rows = c.in_ok-corners.corners in
    let r = c.in_ok-corners.ensures in
    let n = r.count in
    let l = c.len-i-end.ensures in
    let x = c.index-as_slice-i.result in
    let h : i < length rows = omega arith in
    let at = get_or_default rows i [] x h ∙ sym (c.index-as_slice-i.is ∙ ap (λ l. get_or l i x) c.as_slice-in-loop-i.ensures) ∙ sym c.as_slice-in-loop-i-2.ensures in
    subst (IsDigitsOf g (polynomial_of (corner g i))) at (r.each i (omega arith))

-- the rows are those of 1 and of the products of two corners
products_of : (g : DigitData) (a : FiniteAlgebra) → g.depth ≡ 1 → a.prime ≡ g.curve.prime → a.dimension ≡ length g.basis → IsDigitsOf g one a.one → (i : ℕ) → i ≡ length g.basis
    → AreFirstProducts g i a.products → HasCornerProducts (data_of g.curve) g.basis a
products_of g a depth prime dimension first i whole products = record {
  prime = prime;
  dimension = dimension;
  count = products.count ∙ ap (λ n. n * length g.basis) whole;
  one = subst (λ t. AreDigits (data_of g.curve) g.basis t one a.one) depth first;
  products = λ k j h l.
      subst (λ t. AreDigits (data_of g.curve) g.basis t (mul g.curve.prime (polynomial_of (corner g k)) (polynomial_of (corner g j))) (get_or a.products (k * length g.basis + j) [])) depth
      (products.each k j (let w = whole in omega arith) l);
}

made : (c : After-len) → HasCornerProducts (data_of c.args.digits.now.curve) c.args.digits.now.basis
    (record { prime = c.deref.result.now.prime; dimension = c.len.result; one = c.in_ok-unit.unit; products = c.loop-i.products })
made c =
    let g = c.args.digits.now in
    let n = c.in_ok-corners.ensures.count in
    let l = c.len-i-end.ensures in
    let m = c.len.ensures in
    let k = c.loop-i.auto.i-end in
    let e = c.loop-i-test.false in
    products_of g (record { prime = c.deref.result.now.prime; dimension = c.len.result; one = c.in_ok-unit.unit; products = c.loop-i.products }) c.requires
    (ap (λ x. x.prime) (c.deref.ensures ∙ c.curve.ensures)) (omega arith) c.in_ok-unit.ensures c.loop-i.i (omega arith) c.loop-i.invariant

pub of_products-requires : goal.of_products-requires
of_products-requires c =
    let g = c.args.digits.now in
    let s = c.basis-basis.ensures.known in
    (algebras_law (data_of g.curve) (finite g s) g.basis s.corners (record { prime = c.deref.result.now.prime; dimension = c.len.result; one = c.in_ok-unit.unit; products = c.loop-i.products })
    (made (goal.at.of_products-requires c).After-len)).0

pub returns : goal.returns
returns c =
    let g = c.args.digits.now in
    let s = c.basis-basis.ensures.known in
    let a : FiniteAlgebra = record { prime = c.deref.result.now.prime; dimension = c.len.result; one = c.in_ok-unit.unit; products = c.loop-i.products } in
    let h = made (goal.at.returns c).After-len in
    subst (IsBaseAlgebra g) (sym c.of_products.ensures) (record { one = h.one; algebra = (algebras_law (data_of g.curve) (finite g s) g.basis s.corners a h).1 })
