use Rattle.std.proofs.Common.{◌<◌, ◌+◌, ◌*◌, ℕ, List, length, sym, subst, arith}
use Rattle.finite_algebra.specs.Elements.{IsAlgebra, unit_row}
use Rattle.split_timing.specs.Powers.{ArePowersOfX, AreProductsOfPowers}
use Rattle.split_timing.proofs.Laws.{basis_laws}
use Rattle.split_timing.proofs.quotients.algebra_modulo.Goals as goal

pub of_products-requires : goal.of_products-requires
of_products-requires c =
    let p = c.args.prime in
    let r = c.args.r.now in
    let positive : 0 < c.args.prime = omega (arith, c.get-p.ensures.range, c.get-p.ensures.value) in
    let n = length c.args.r.now in
    let products = c.in_ok-products.products in
    let w = subst (λ m. ArePowersOfX p n m (n + n) c.in_ok-powers.powers) c.as_slice.ensures c.in_ok-powers.ensures in
    let q = subst (λ ps. AreProductsOfPowers n ps (n * n) products) c.as_slice-2.ensures c.in_ok-products.ensures in
    let laws = basis_laws p positive r c.requires.n.0 c.in_ok-matrix.matrix c.in_ok-powers.powers products c.in_ok-matrix.ensures w q in
    subst (λ (one : List ℕ). IsAlgebra (record { prime = p; dimension = n; one = one; products = products })) (sym c.in_ok-one.ensures)
    (c.basis_laws_suffice.ensures (record { prime = p; dimension = n; one = unit_row n 0; products = products }) positive laws)
