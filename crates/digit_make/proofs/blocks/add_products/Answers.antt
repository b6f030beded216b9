use Rattle.std.proofs.Common.{◌+◌, ◌<◌, length, get_or, take, arith, refl, sym, subst}
use Rattle.digit_make.specs.Rows.{Adds, IsBlockRow, corners_multiple}
use Rattle.digit_make.proofs.Steps.{products_start, products_step, products_skip, products_end}
use Rattle.digit_make.proofs.blocks.add_products.Goals.{then-c-ne0, else-c-ne0}
use Rattle.digit_make.proofs.blocks.add_products.Goals as goal

pub loop-i-init : goal.loop-i-init
loop-i-init c = record { fits = c.requires.out; adds = products_start c.args.plan.now c.requires.plan c.args.t c.args.v c.args.factors.now c.args.out.now }

pub loop-i-preserved : goal.loop-i-preserved
loop-i-preserved c =
    let plan = c.args.plan.now in
    let factors = c.args.factors.now in
    let i = c.loop-i.i in
    let inside : c.loop-i.i < length c.args.plan.now.corners = (let l = c.requires.factors.0 in omega (arith, c.loop-i-test.true)) in
    elim c.if-c-ne0.branch [
      | then-c-ne0 w ↦ record {
        fits = subst (IsBlockRow plan) (sym w.out-is) w.add_block.ensures.fits;
        adds = subst (Adds plan c.args.t c.args.out.now (corners_multiple plan c.args.v (take (i + 1) factors))) (sym w.out-is)
            (products_step plan c.requires.plan c.args.t c.args.v i (get_or factors i 0) w.product_place.result factors c.args.out.now c.loop-i.out w.add_block.new.out c.requires.v c.requires.factors inside refl
            w.product_place.ensures.product c.loop-i.invariant.adds w.add_block.ensures.adds);
      }
      | else-c-ne0 w ↦ record {
        fits = subst (IsBlockRow plan) (sym w.out-is) c.loop-i.invariant.fits;
        adds = subst (Adds plan c.args.t c.args.out.now (corners_multiple plan c.args.v (take (i + 1) factors))) (sym w.out-is)
            (products_skip plan c.requires.plan c.args.t c.args.v i factors c.args.out.now c.loop-i.out c.requires.v c.requires.factors inside w.if-c-ne0.false c.loop-i.invariant.adds);
      }
    ]

pub returns-clause-adds : goal.returns-clause-adds
returns-clause-adds c = products_end c.args.plan.now c.requires.plan c.args.t c.args.v c.loop-i.i c.args.factors.now c.args.out.now c.loop-i.out c.loop-i-test.false c.loop-i.invariant.adds

pub add_block-requires-clause-made : goal.add_block-requires-clause-made
add_block-requires-clause-made c =
    let inside : c.loop-i.i < length c.args.plan.now.corners = (let l = c.requires.factors.0 in omega (arith, c.loop-i-test.true)) in
    c.requires.made c.loop-i.i c.product_place.result inside c.if-c-ne0.true c.product_place.ensures.inner c.product_place.ensures.product
