use Rattle.std.proofs.Common.{◌<◌, ◌++◌, [], length, get_or, arith, refl, sym, ap, ◌∙◌}
use Rattle.std.proofs.lemmas.List.{get_or_default}
use Rattle.row_space.specs.Sums.{side_by_side}
use Rattle.row_space.proofs.Gathering.{joins_nothing, joins_more, joins_all, fits_moved, side_by_side-entry, length-side_by_side}
use Rattle.row_space.proofs.space.Space.put_pairs.Goals as goal

pub loop-i-init : goal.loop-i-init
loop-i-init c = joins_nothing c.args.self.now [] refl

pub loop-i-preserved : goal.loop-i-preserved
loop-i-preserved c =
    let inside : c.loop-i.i < length (side_by_side c.args.left.now c.args.right.now) = omega (arith, c.loop-i-test.true, length-side_by_side c.args.left.now c.args.right.now c.requires.count) in
    let row_is = c.in_ok-row.ensures
    ∙ ap (λ r. r ++ c.as_slice-in-loop-i.result.now) (c.as_slice.ensures ∙ c.index-left-i.is ∙ get_or_default c.args.left.now c.loop-i.i c.index-left-i.result [] c.loop-i-test.true)
    ∙ ap (λ r. get_or c.args.left.now c.loop-i.i [] ++ r) (c.as_slice-in-loop-i.ensures ∙ c.index-right-i.is ∙ get_or_default c.args.right.now c.loop-i.i c.index-right-i.result [] (omega (arith, c.loop-i-test.true, c.requires.count)))
    ∙ sym (side_by_side-entry c.args.left.now c.args.right.now c.loop-i.i c.requires.count c.loop-i-test.true) in
    joins_more c.args.self.now c.loop-i.self c.put.new.self (side_by_side c.args.left.now c.args.right.now) c.in_ok-row.row.items c.loop-i.i inside row_is c.loop-i.invariant c.in_ok-put.ensures

pub put-requires : goal.put-requires
put-requires c =
    let inside : c.loop-i.i < length (side_by_side c.args.left.now c.args.right.now) = omega (arith, c.loop-i-test.true, length-side_by_side c.args.left.now c.args.right.now c.requires.count) in
    let row_is = c.in_ok-row.ensures
    ∙ ap (λ r. r ++ c.as_slice-in-loop-i.result.now) (c.as_slice.ensures ∙ c.index-left-i.is ∙ get_or_default c.args.left.now c.loop-i.i c.index-left-i.result [] c.loop-i-test.true)
    ∙ ap (λ r. get_or c.args.left.now c.loop-i.i [] ++ r) (c.as_slice-in-loop-i.ensures ∙ c.index-right-i.is ∙ get_or_default c.args.right.now c.loop-i.i c.index-right-i.result [] (omega (arith, c.loop-i-test.true, c.requires.count)))
    ∙ sym (side_by_side-entry c.args.left.now c.args.right.now c.loop-i.i c.requires.count c.loop-i-test.true) in
    fits_moved c.args.self.now.prime c.loop-i.self.prime c.args.self.now.width c.loop-i.self.width _ c.in_ok-row.row.items c.loop-i.invariant.prime c.loop-i.invariant.width row_is (c.requires.fit c.loop-i.i [] inside)

pub returns : goal.returns
returns c = joins_all c.args.self.now c.loop-i.self (side_by_side c.args.left.now c.args.right.now) c.loop-i.i (omega (arith, length-side_by_side c.args.left.now c.args.right.now c.requires.count)) c.loop-i.invariant
