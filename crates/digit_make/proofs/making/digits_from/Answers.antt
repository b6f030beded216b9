use Rattle.std.proofs.Common.{◌*◌, sym, ap, ap₂, subst}
use Rattle.digit_make.specs.Blocks.{AreLong}
use Rattle.digit_make.specs.Making.{AreOuter, AreTrimmed}
use Rattle.digit_make.proofs.Made.{has_products, has_outer}
use Rattle.digit_make.proofs.making.digits_from.Goals as goal

pub border_rows-requires : goal.border_rows-requires
border_rows-requires c =
    subst (AreLong (c.len-n.result * c.args.depth)) (sym c.as_slice.ensures)
    (subst (λ z. AreLong (z * c.args.depth) c.grow.new.rows.border) (sym c.len-n.ensures) c.in_ok-grow.ensures.border)

pub outer_rows-requires-clause-long : goal.outer_rows-requires-clause-long
outer_rows-requires-clause-long c =
    subst (AreLong (c.len-n.result * c.saturating_sub-before.result)) (sym c.as_slice-3.ensures)
    (subst (λ z. AreLong z c.grow.new.rows.outer) (sym (ap₂ (λ x y. x * y) c.len-n.ensures c.saturating_sub-before.ensures)) c.in_ok-grow.ensures.outer)

pub of_products-requires-clause-products : goal.of_products-requires-clause-products
of_products-requires-clause-products c =
    has_products c.args.plan c.requires.plan c.args.depth (c.len-n.result * c.args.depth) c.grow.new.rows.border c.in_ok-border.border c.in_ok-grow.ensures.rows.border
    (subst (λ z. AreTrimmed (c.len-n.result * c.args.depth) z c.in_ok-border.border) c.as_slice.ensures c.in_ok-border.ensures) (ap (λ z. z * c.args.depth) c.len-n.ensures)

pub of_products-requires-clause-outer : goal.of_products-requires-clause-outer
of_products-requires-clause-outer c =
    has_outer c.args.plan c.requires.plan c.args.depth (c.len-n.result * c.saturating_sub-before.result) c.grow.new.rows.outer c.in_ok-outer.outer c.in_ok-grow.ensures.rows.outer
    (subst (λ z. AreOuter (c.len-n.result * c.saturating_sub-before.result) c.args.plan.outer z c.in_ok-outer.outer) c.as_slice-3.ensures
    (subst (λ z. AreOuter (c.len-n.result * c.saturating_sub-before.result) z c.as_slice-3.result.now c.in_ok-outer.outer) c.as_slice-2.ensures c.in_ok-outer.ensures))
    (ap₂ (λ x y. x * y) c.len-n.ensures c.saturating_sub-before.ensures)
