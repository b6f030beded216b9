use Rattle.std.proofs.Common.{ap, ◌∙◌}
use Rattle.std.proofs.lemmas.List.{get_or_default}
use Rattle.monomials.specs.Mono.{times, unit, variable}
use Rattle.digit_plan.proofs.Playing.{products_more}
use Rattle.digit_plan.proofs.planning.insert_products.Goals as goal

pub loop-i-preserved : goal.loop-i-preserved
loop-i-preserved c =
    let ms = c.args.corners.now in
    products_more c.args.v c.loop-i.i ms c.args.border.now.items c.loop-i.border.items c.insert_outside.new.border.items c.multiple.result c.loop-i.invariant
    (c.multiple.ensures ∙ ap (λ z. times z (variable c.args.v)) (c.index-corners-i.is ∙ get_or_default ms c.loop-i.i c.index-corners-i.result unit c.loop-i-test.true))
    c.in_ok-insert_outside.ensures
