use Rattle.std.proofs.Common.{length, sym, ap, ◌∙◌, subst}
use Rattle.digit_plan.specs.Playing.{AreLow, IsBorder}
use Rattle.digit_plan.proofs.Leads.{lifts_affine}
use Rattle.digit_plan.proofs.Playing.{border_affine, low}
use Rattle.digit_plan.proofs.making.play_of.Goals as goal

pub order_of-requires-clause-low : goal.order_of-requires-clause-low
order_of-requires-clause-low c = subst AreLow (sym c.as_slice.ensures) (low c.args.lifted.now.variables c.args.corners c.requires.variables c.requires.closed)

pub outer_of-requires-clause-lifts : goal.outer_of-requires-clause-lifts
outer_of-requires-clause-lifts c =
    lifts_affine c.args.lifted.now c.in_ok-lifts.lifts c.as_slice-3.result.now (length c.as_slice-4.result.now) c.in_ok-lifts.ensures c.as_slice-3.ensures
    (ap length c.as_slice-4.ensures.value ∙ c.in_ok-order.ensures.count ∙ c.variables-variables.ensures)

pub returns-clause-affine : goal.returns-clause-affine
returns-clause-affine c =
    let n = c.args.lifted.now.variables in
    let border = c.in_ok-border.border in
    border_affine n c.args.corners border c.requires.variables c.requires.closed
    (subst (λ z. IsBorder z c.args.corners border) c.variables-variables.ensures (subst (λ z. IsBorder c.variables-variables.result z border) c.as_slice-2.ensures c.in_ok-border.ensures))
