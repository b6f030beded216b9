use Rattle.std.proofs.Common.{◌≡◌, ◌↔◌, ◌<◌, ◌≤◌, ◌∙◌, ap, subst, sym, rules, arith}
use Rattle.std.specs.Prelude.{IsTrue, MatchOption}
use Rattle.std.specs.Option.{is_none}
use Rattle.lane_rows.specs.Rows.{IsZeroRow, IsFirstNonzero}
use Rattle.row_space.specs.Subspace.{product}
use Rattle.named_points.specs.Deciding.{IsZeroAt}
use Rattle.named_points.proofs.Values.{product_fits, zero_decided}
use Rattle.named_points.proofs.deciding.is_zero_at.Goals as goal

pub returns : goal.returns
returns c =
    let g = c.args.digits.now in
    let p = g.curve.prime in
    let local = c.args.local.now in
    let width = local.point.degree in
    let value = product p width c.args.row.now local.values in
    let q = c.deref.result.now.prime in
    let same : q ≡ p = ap (λ C. C.prime) (c.deref.ensures ∙ c.curve.ensures) in
    let two : 2 ≤ c.get-p.result = c.get-p.ensures.range.0 in
    let modulus : c.get-p.result ≡ p = c.get-p.ensures.value ∙ same in
    let positive : 0 < p = omega arith in
    let is : c.as_slice.result.now ≡ value =
    c.as_slice.ensures ∙ (c.in_ok-value.ensures ∙ (ap (λ r. product r width c.args.row.now c.as_slice-matrix.result.now) same ∙ ap (product p width c.args.row.now) c.as_slice-matrix.ensures)) in
    let found : MatchOption c.first_nonzero.result (IsZeroRow value) (λ place. IsFirstNonzero value place) =
    subst (λ w. MatchOption c.first_nonzero.result (IsZeroRow w) (λ place. IsFirstNonzero w place)) is c.first_nonzero.ensures in
    let said : c.is_none.result ≡ is_none c.first_nonzero.result = search rules in
    subst (λ b. IsTrue b ↔ IsZeroAt g local c.args.row.now) (sym said)
    (zero_decided p width positive value (product_fits p width positive c.args.row.now local.values) c.first_nonzero.result found)
