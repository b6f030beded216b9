use Rattle.std.proofs.Common.{map, ap, ◌∙◌, subst}
use Rattle.prime_field.proofs.Table.{positive_of_prime}
use Rattle.polys.specs.Curve.{data_of}
use Rattle.digit_space.specs.Model.{value_of}
use Rattle.over_module.specs.Raising.{IsSpannedBy}
use Rattle.point_quotient.proofs.ProductLists.{spanned_products}
use Rattle.point_quotient.proofs.multiplying.product_space.Goals as goal

pub returns : goal.returns
returns c =
    let g = c.args.digits.now in
    let s = c.entries-width.ensures.known in
    let space = c.in_ok-space.space in
    spanned_products (data_of g.curve) g.basis c.args.depth (map (λ f. f.terms) c.args.factors.now) (map (value_of g) c.args.rows.now) c.in_ok-products.products c.in_ok-products.ensures
    (positive_of_prime g.curve.prime s.prime) c.entries-width.result c.entries-width.ensures.value c.in_ok-space.space
    (subst (λ z. IsSpannedBy z c.entries-width.result c.in_ok-products.products space) (ap (λ x. x.prime) (c.deref.ensures ∙ c.curve.ensures))
    (subst (λ z. IsSpannedBy c.deref.result.now.prime c.entries-width.result z space) c.as_slice.ensures c.in_ok-space.ensures))
