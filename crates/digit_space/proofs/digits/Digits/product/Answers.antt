use Rattle.std.proofs.Common.{◌≡◌, ℕ, ◌<◌, [], length, get_or, sym, subst}
use Rattle.polys.proofs.Sums.{mul_comm}
use Rattle.polys.specs.Terms.{mul}
use Rattle.digit_space.specs.Model.{IsDigitSpace, IsDigitsOf, value_of}
use Rattle.digit_space.specs.Adding.{AreMultiples, corner_multiple}
use Rattle.digit_space.proofs.RowProducts.{row_poly}
use Rattle.digit_space.proofs.digits.Digits.product.Goals as goal

pub returns : goal.returns
returns c =
    let g = c.args.self.now in
    let s = subst IsDigitSpace c.self.view_is c.self.invariant.0 in
    let a = c.args.a.now in
    let b = c.args.b.now in
    let each : AreMultiples g (value_of g b) c.as_slice.result.now = subst (AreMultiples g (value_of g b)) (sym c.as_slice.ensures) c.in_ok-rows.ensures.rows in
    let d = c.in_ok-row.ensures (value_of g b) (row_poly g s b) each in
    subst (λ f. IsDigitsOf g f c.in_ok-row.row) (mul_comm g.curve.prime (value_of g b) (value_of g a)) d
