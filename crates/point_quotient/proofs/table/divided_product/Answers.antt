use Rattle.std.proofs.Common.{◌≡◌, suc, ◌+◌, ◌*◌, ◌≤◌, length, take, drop, ap, ap₂, ◌∙◌, arith, mul-add, mul-le-mul}
use Rattle.polys.specs.Terms.{mul}
use Rattle.polys.specs.Curve.{data_of}
use Rattle.digit_laws.proofs.DigitLaws.{value_poly}
use Rattle.digit_space.specs.Model.{IsDigitsOf, value_of}
use Rattle.over_module.proofs.Facts.{finite}
use Rattle.point_quotient.proofs.table.divided_product.Goals as goal
use Rattle.point_quotient.proofs.table.divided_product.Goals.{In_ok-whole}

whole_digits : (c : In_ok-whole) → IsDigitsOf c.args.digits.now (mul c.args.digits.now.curve.prime (value_of c.args.digits.now c.args.factor.now) (value_of c.args.digits.now c.args.row.now)) c.in_ok-whole.whole
whole_digits c =
    let g = c.args.digits.now in
    let s = c.entries-first.ensures.known in
    c.in_ok-whole.ensures (value_of g c.args.factor.now) (value_poly (data_of g.curve) (finite g s) g.basis s.corners g.depth c.args.factor.now) c.requires.multiples

pub part_of-requires : goal.part_of-requires
part_of-requires c =
    let g = c.args.digits.now in
    let N = length g.basis in
    let k = c.args.blocks in
    let d = (whole_digits (goal.at.part_of-requires c).In_ok-whole).fits.0 in
    let a = c.entries-first.ensures.value in
    let b : c.entries-width.result ≡ N * suc k = c.entries-width.ensures.value ∙ ap (λ t. N * t) (let q : k + 1 ≡ suc k = omega arith in q) in
    let sum : N * (k + suc k) ≡ N * k + N * suc k = mul-add N k (suc k) in
    let most : N * (k + suc k) ≤ N * g.depth = mul-le-mul (let x : N ≤ N = omega arith in x) c.requires.blocks in
    let e = ap length c.as_slice.ensures in
    omega arith

pub returns : goal.returns
returns c =
    let g = c.args.digits.now in
    let N = length g.basis in
    let k = c.args.blocks in
    let b : c.entries-width.result ≡ N * suc k = c.entries-width.ensures.value ∙ ap (λ t. N * t) (let q : k + 1 ≡ suc k = omega arith in q) in
    record {
      whole = c.in_ok-whole.whole;
      digits = whole_digits (goal.at.returns c).In_ok-whole;
      part = c.in_ok-made.ensures ∙ ap₂ take b (ap₂ drop c.entries-first.ensures.value c.as_slice.ensures);
    }
