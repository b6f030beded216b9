use Rattle.std.proofs.Common.{length, sym, ap, ◌∙◌, subst, arith}
use Rattle.std.proofs.lemmas.List.{length_push, get_or_default}
use Rattle.monomials.specs.Mono.{unit}
use Rattle.digit_plan.specs.Planned.{AreFirstProducts}
use Rattle.digit_plan.proofs.Found.{products_push}
use Rattle.digit_plan.proofs.Playing.{low_read, product_inside}
use Rattle.digit_plan.proofs.rules.push_products.Goals as goal

pub multiple-m-requires-clause-room : goal.multiple-m-requires-clause-room
multiple-m-requires-clause-room c =
    low_read c.args.variables c.args.corners.now c.loop-i.i c.index-corners-i.result c.requires.v.1 c.requires.corners c.loop-i-test.true c.index-corners-i.is

pub product_of-requires-clause-inside : goal.product_of-requires-clause-inside
product_of-requires-clause-inside c =
    product_inside c.args.variables c.args.v c.loop-i.i c.args.corners.now c.args.border.now c.multiple-m.result c.index-corners-i.result c.requires.border c.requires.v.0 c.loop-i-test.true
    c.multiple-m.ensures c.index-corners-i.is

pub loop-i-preserved : goal.loop-i-preserved
loop-i-preserved c =
    let corners = c.args.corners.now in
    let border = c.args.border.now in
    let products = c.loop-i.products in
    let product = c.product_of.result in
    let ok = c.in_ok-push.ensures.ok in
    record {
      count = ap length ok ∙ length_push products product ∙ (let k = c.loop-i.invariant.count in omega arith);
      each = subst (AreFirstProducts corners border) (sym ok)
          (products_push corners border products c.args.v c.loop-i.i product c.multiple-m.result c.index-corners-i.result c.loop-i-test.true c.loop-i.invariant.count c.loop-i.invariant.each c.multiple-m.ensures
          (c.index-corners-i.is ∙ get_or_default corners c.loop-i.i c.index-corners-i.result unit c.loop-i-test.true) c.product_of.ensures);
    }
