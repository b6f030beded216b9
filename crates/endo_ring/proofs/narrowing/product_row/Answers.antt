use Rattle.std.proofs.Common.{◌≡◌, ◌+◌, ◌-◌, ◌*◌, ◌≤◌, length, take, sym, ap, ap₂, subst, ◌∙◌, arith}
use Rattle.polys.specs.Terms.{mul}
use Rattle.polys.specs.Curve.{data_of}
use Rattle.digit_laws.specs.Digits.{AreDigits, value}
use Rattle.digit_laws.proofs.DigitLaws.{value_poly}
use Rattle.polys.proofs.Affine.{poly_mul, positive}
use Rattle.curve_laws.proofs.Base.{high}
use Rattle.digit_space.specs.Model.{IsDigitRow, IsDigitsOf, value_of}
use Rattle.over_module.proofs.Facts.{finite, filled_row, filled_value, front_digits, zeros_are}
use Rattle.endo_ring.proofs.narrowing.product_row.Goals as goal
use Rattle.endo_ring.proofs.narrowing.product_row.Goals.{After-entries-width}

low : (c : After-entries-width) → c.args.blocks ≤ c.args.digits.now.depth
low c = let r = c.requires.blocks in omega arith

zeros_is : (c : After-entries-width) → c.entries-width.result - length c.args.row.now ≡ length c.args.digits.now.basis * (c.args.digits.now.depth - c.args.blocks)
zeros_is c =
    let g = c.args.digits.now in
    ap (λ w. w - length c.args.row.now) (c.entries-width.ensures.value ∙ ap (λ d. length g.basis * d) c.depth.ensures) ∙ zeros_are g c.entries-width.ensures.known c.args.blocks (low c) c.args.row.now c.requires.row.0

pub product_by-requires-clause-row : goal.product_by-requires-clause-row
product_by-requires-clause-row c =
    let g = c.args.digits.now in
    let w = (goal.at.product_by-requires-clause-row c).After-entries-width in
    subst (IsDigitRow g) (sym (c.as_slice.ensures ∙ c.in_ok-filled.ensures))
    (filled_row g c.entries-width.ensures.known c.args.blocks (low w) c.args.row.now c.requires.row (c.entries-width.result - length c.args.row.now) (zeros_is w))

pub returns : goal.returns
returns c =
    let g = c.args.digits.now in
    let A = data_of g.curve in
    let s = c.entries-width.ensures.known in
    let f = finite g s in
    let b = c.args.blocks in
    let q = c.args.generator.now.terms in
    let row = c.args.row.now in
    let whole = c.in_ok-whole.whole in
    let d = (goal.at.returns c).After-entries-width in
    let v = ap (value_of g) (c.as_slice.ensures ∙ c.in_ok-filled.ensures) ∙ filled_value g s b (low d) row c.requires.row (c.entries-width.result - length c.args.row.now) (zeros_is d) in
    let product = subst (λ x. IsDigitsOf g (mul g.curve.prime q x) whole) v (c.in_ok-whole.ensures q c.requires.generator.poly c.requires.multiples) in
    let y = mul g.curve.prime q (value (data_of g.curve) g.basis b row) in
    let hy = poly_mul g.curve.prime g.curve.variables q (value (data_of g.curve) g.basis b row) (positive g.curve.prime (high (data_of g.curve) f.curve)) c.requires.generator.poly
    (value_poly (data_of g.curve) f g.basis s.corners b row) in
    let front = c.in_ok-from_slice.ensures ∙ ap₂ (λ n r. take n r) c.entries-front.ensures.value c.as_slice-2.ensures in
    subst (AreDigits (data_of g.curve) g.basis (b + b) y) (sym front) (front_digits g s (b + b) c.requires.blocks y hy whole product)
