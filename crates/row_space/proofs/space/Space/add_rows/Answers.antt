use Rattle.std.proofs.Common.{◌<◌, [], length, arith, refl, ◌∙◌}
use Rattle.std.proofs.lemmas.List.{get_or_default}
use Rattle.row_space.proofs.Gathering.{joins_nothing, joins_more, joins_all, fits_moved}
use Rattle.row_space.proofs.space.Space.add_rows.Goals as goal

pub loop-i-init : goal.loop-i-init
loop-i-init c = joins_nothing c.args.self.now [] refl

pub loop-i-preserved : goal.loop-i-preserved
loop-i-preserved c =
    let inside : c.loop-i.i < length c.args.rows.now = c.loop-i-test.true in
    let row_is = c.in_ok-row.ensures ∙ c.as_slice.ensures ∙ c.index-rows-i.is ∙ get_or_default c.args.rows.now c.loop-i.i c.index-rows-i.result [] c.loop-i-test.true in
    joins_more c.args.self.now c.loop-i.self c.put.new.self c.args.rows.now c.in_ok-row.row.items c.loop-i.i inside row_is c.loop-i.invariant c.in_ok-put.ensures

pub put-requires : goal.put-requires
put-requires c =
    let inside : c.loop-i.i < length c.args.rows.now = c.loop-i-test.true in
    let row_is = c.in_ok-row.ensures ∙ c.as_slice.ensures ∙ c.index-rows-i.is ∙ get_or_default c.args.rows.now c.loop-i.i c.index-rows-i.result [] c.loop-i-test.true in
    fits_moved c.args.self.now.prime c.loop-i.self.prime c.args.self.now.width c.loop-i.self.width _ c.in_ok-row.row.items c.loop-i.invariant.prime c.loop-i.invariant.width row_is (c.requires c.loop-i.i [] inside)

pub returns : goal.returns
returns c = joins_all c.args.self.now c.loop-i.self c.args.rows.now c.loop-i.i (omega arith) c.loop-i.invariant
