use Rattle.std.proofs.Common.{◌≡◌, ◌*◌, ◌<◌, [], length, take, get_or, sym, ap₂, ◌∙◌, subst}
use Rattle.std.proofs.lemmas.List.{get_or_default}
use Rattle.polys.specs.Terms.{mul}
use Rattle.polys.specs.Curve.{data_of}
use Rattle.polys.proofs.Affine.{poly_mul, positive}
use Rattle.curve_laws.proofs.Base.{high}
use Rattle.digit_laws.specs.Digits.{AreDigits}
use Rattle.digit_laws.proofs.DigitLaws.{value_poly}
use Rattle.digit_space.specs.Model.{IsDigitsOf, value_of}
use Rattle.over_module.proofs.Facts.{finite, front_digits}
use Rattle.point_quotient.proofs.Times.{times_more}
use Rattle.point_quotient.proofs.multiplying.product_rows.Goals as goal

pub loop-row-preserved : goal.loop-row-preserved
loop-row-preserved c =
    let g = c.args.digits.now in
    let s = c.entries-width.ensures.known in
    let q = c.args.f.now.terms in
    let rows = c.args.rows.now in
    let i = c.loop-row.row-index in
    let row = get_or rows i [] in
    let whole = c.in_ok-whole.whole in
    let n = c.loop-row.auto.row-index-end in
    let l : i < length rows = c.loop-row-test.true in
    let y = mul g.curve.prime q (value_of g row) in
    let hy = poly_mul g.curve.prime g.curve.variables q (value_of g row) (positive g.curve.prime (high (data_of g.curve) (finite g s).curve)) c.requires.poly.poly (value_poly (data_of g.curve) (finite g s) g.basis s.corners g.depth row) in
    let item : c.as_slice.result.now ≡ row = c.as_slice.ensures ∙ c.row-item.is ∙ get_or_default rows i c.row-item.result [] l in
    let d : IsDigitsOf g y whole = subst (λ r. IsDigitsOf g (mul g.curve.prime q (value_of g r)) whole) item (c.in_ok-whole.ensures q c.requires.poly.poly c.requires.multiples) in
    let front : c.in_ok-front.front ≡ take (length g.basis * c.args.depth) whole = c.in_ok-front.ensures ∙ ap₂ (λ n r. take n r) c.entries-width.ensures.value c.as_slice-in-loop-row.ensures in
    times_more g c.args.depth q rows c.loop-row.made c.push.new.self i c.in_ok-front.front l c.loop-row.invariant c.in_ok-push.ensures.ok
    (subst (AreDigits (data_of g.curve) g.basis c.args.depth y) (sym front) (front_digits g s c.args.depth c.requires.depth y hy whole d))
