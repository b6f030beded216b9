use Rattle.std.proofs.Common.{◌∙◌, subst, sym}
use Rattle.prime_field.specs.Primes.{IsPrime}
use Rattle.prime_field.proofs.Table.{positive_of_prime}
use Rattle.row_space.specs.Subspace.{product}
use Rattle.finite_algebra.specs.Elements.{IsElement}
use Rattle.finite_algebra.proofs.Multiplication.{product-times}
use Rattle.finite_algebra.proofs.Products.{ring_from}
use Rattle.finite_algebra.proofs.Summing.{combination_fits}
use Rattle.frobenius_split.proofs.Relations.{image_of}
use Rattle.frobenius_split.proofs.polynomials.product_with.Goals as goal

pub returns-clause-element : goal.returns-clause-element
returns-clause-element c =
    let A = c.args.a.now in
    let prime = subst IsPrime (c.get-p.ensures.value ∙ c.prime.ensures) c.get-p.ensures.prime in
    let made = image_of _ _ _ _ c.args.row.now c.args.row.now c.args.table.now c.in_ok-made.made c.in_ok-made.ensures c.prime-2.ensures c.dimension.ensures (cc) in
    subst (IsElement A) (sym made) (combination_fits A.prime A.dimension (positive_of_prime A.prime prime) c.args.row.now c.args.table.now)

pub returns-clause-product : goal.returns-clause-product
returns-clause-product c =
    let A = c.args.a.now in
    let prime = subst IsPrime (c.get-p.ensures.value ∙ c.prime.ensures) c.get-p.ensures.prime in
    let positive = positive_of_prime A.prime prime in
    let made = image_of _ _ _ _ c.args.row.now c.args.row.now c.args.table.now c.in_ok-made.made c.in_ok-made.ensures c.prime-2.ensures c.dimension.ensures (cc) in
    let R = ring_from A positive c.one-one.ensures.laws in
    R.trans (subst (λ r. R.◌≈◌ r (product A.prime A.dimension c.args.row.now c.args.table.now)) (sym made) (R.rfl _))
    (R.trans (product-times A positive c.args.u.now c.args.table.now c.requires.table c.args.row.now) (R.mul_comm c.args.row.now c.args.u.now))
