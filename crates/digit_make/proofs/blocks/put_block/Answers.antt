use Rattle.std.proofs.Common.{◌<◌, length, refl, sym, subst}
use Rattle.digit_make.specs.Blocks.{IsKnown}
use Rattle.digit_plan.specs.Planned.{IsOutsidePlace, IsRule, curve_of, monomial_at}
use Rattle.digit_make.specs.Rows.{HasBlockAt, HaveProductRows, IsReadyFor}
use Rattle.digit_make.proofs.Ready.{mono_read}
use Rattle.digit_make.proofs.Steps.{read_made, row_read}
use Rattle.digit_make.proofs.blocks.put_block.Goals as goal

pub put_product_block-requires-clause-row : goal.put_product_block-requires-clause-row
put_product_block-requires-clause-row c =
    let plan = c.args.plan.now in
    let place = subst (IsOutsidePlace plan.border plan.outer) c.in-Border.is (subst (IsRule plan c.args.m.now) c.in-Multiple.is c.requires.rule).1 in
    subst (λ z. IsKnown (curve_of plan) plan.corners z c.as_slice-in-Border-3.result.now) (sym (mono_read plan.border c.as_slice-in-Border.result.now c.in-Border.j c.index-as_slice-j.result c.as_slice-in-Border.ensures place c.index-as_slice-j.is))
    (row_read plan c.requires.plan plan.border c.args.rows.now.border c.as_slice-in-Border-2.result.now c.in-Border.j c.index-as_slice-j-in-Border.result c.as_slice-in-Border-3.result.now c.requires.rows.border place
    c.as_slice-in-Border-2.ensures c.index-as_slice-j-in-Border.is c.as_slice-in-Border-3.ensures)

pub put_product_block-requires-in-Outer-clause-row : goal.put_product_block-requires-in-Outer-clause-row
put_product_block-requires-in-Outer-clause-row c =
    let plan = c.args.plan.now in
    let place = subst (IsOutsidePlace plan.border plan.outer) c.in-Outer.is (subst (IsRule plan c.args.m.now) c.in-Multiple.is c.requires.rule).1 in
    subst (λ z. IsKnown (curve_of plan) plan.corners z c.as_slice-in-Outer-3.result.now) (sym (mono_read plan.outer c.as_slice-in-Outer.result.now c.in-Outer.j c.index-as_slice-j-in-Outer.result c.as_slice-in-Outer.ensures place c.index-as_slice-j-in-Outer.is))
    (row_read plan c.requires.plan plan.outer c.args.rows.now.outer c.as_slice-in-Outer-2.result.now c.in-Outer.j c.index-as_slice-j-in-Outer-2.result c.as_slice-in-Outer-3.result.now c.requires.rows.outer place
    c.as_slice-in-Outer-2.ensures c.index-as_slice-j-in-Outer-2.is c.as_slice-in-Outer-3.ensures)

pub put_product_block-requires-clause-long : goal.put_product_block-requires-clause-long
put_product_block-requires-clause-long c =
    let plan = c.args.plan.now in
    let place = subst (IsOutsidePlace plan.border plan.outer) c.in-Border.is (subst (IsRule plan c.args.m.now) c.in-Multiple.is c.requires.rule).1 in
    read_made plan c.requires.plan c.args.t (length plan.corners) c.args.rows.now.border c.as_slice-in-Border-2.result.now c.in-Border.j c.index-as_slice-j-in-Border.result c.as_slice-in-Border-3.result.now
    (subst (λ z. c.in-Border.j < z) (sym c.requires.rows.border.count) place) c.as_slice-in-Border-2.ensures c.index-as_slice-j-in-Border.is c.as_slice-in-Border-3.ensures refl
    (subst (HasBlockAt plan c.args.rows.now c.args.t) c.in-Border.is (subst (IsReadyFor plan c.args.rows.now c.args.t) c.in-Multiple.is c.requires.ready).0)

pub put_product_block-requires-clause-products : goal.put_product_block-requires-clause-products
put_product_block-requires-clause-products c =
    let plan = c.args.plan.now in
    let place = subst (IsOutsidePlace plan.border plan.outer) c.in-Border.is (subst (IsRule plan c.args.m.now) c.in-Multiple.is c.requires.rule).1 in
    subst (HaveProductRows plan c.args.rows.now c.args.t c.in-Multiple.v) (sym (mono_read plan.border c.as_slice-in-Border.result.now c.in-Border.j c.index-as_slice-j.result c.as_slice-in-Border.ensures place c.index-as_slice-j.is))
    (subst (λ z. HaveProductRows plan c.args.rows.now c.args.t c.in-Multiple.v (monomial_at plan z)) c.in-Border.is (subst (IsReadyFor plan c.args.rows.now c.args.t) c.in-Multiple.is c.requires.ready).1)

pub put_product_block-requires-in-Outer-clause-long : goal.put_product_block-requires-in-Outer-clause-long
put_product_block-requires-in-Outer-clause-long c =
    let plan = c.args.plan.now in
    let place = subst (IsOutsidePlace plan.border plan.outer) c.in-Outer.is (subst (IsRule plan c.args.m.now) c.in-Multiple.is c.requires.rule).1 in
    read_made plan c.requires.plan c.args.t (length plan.corners) c.args.rows.now.outer c.as_slice-in-Outer-2.result.now c.in-Outer.j c.index-as_slice-j-in-Outer-2.result c.as_slice-in-Outer-3.result.now
    (subst (λ z. c.in-Outer.j < z) (sym c.requires.rows.outer.count) place) c.as_slice-in-Outer-2.ensures c.index-as_slice-j-in-Outer-2.is c.as_slice-in-Outer-3.ensures refl
    (subst (HasBlockAt plan c.args.rows.now c.args.t) c.in-Outer.is (subst (IsReadyFor plan c.args.rows.now c.args.t) c.in-Multiple.is c.requires.ready).0)

pub put_product_block-requires-in-Outer-clause-products : goal.put_product_block-requires-in-Outer-clause-products
put_product_block-requires-in-Outer-clause-products c =
    let plan = c.args.plan.now in
    let place = subst (IsOutsidePlace plan.border plan.outer) c.in-Outer.is (subst (IsRule plan c.args.m.now) c.in-Multiple.is c.requires.rule).1 in
    subst (HaveProductRows plan c.args.rows.now c.args.t c.in-Multiple.v) (sym (mono_read plan.outer c.as_slice-in-Outer.result.now c.in-Outer.j c.index-as_slice-j-in-Outer.result c.as_slice-in-Outer.ensures place c.index-as_slice-j-in-Outer.is))
    (subst (λ z. HaveProductRows plan c.args.rows.now c.args.t c.in-Multiple.v (monomial_at plan z)) c.in-Outer.is (subst (IsReadyFor plan c.args.rows.now c.args.t) c.in-Multiple.is c.requires.ready).1)
