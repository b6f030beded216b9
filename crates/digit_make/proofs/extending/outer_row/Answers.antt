use Rattle.std.proofs.Common.{◌≡◌, ◌-◌, length, sym, subst}
use Rattle.std.proofs.lemmas.Result.{IfOk-weaker}
use Rattle.polys.specs.Curve.{data_of}
use Rattle.digit_make.specs.Blocks.{HasBlocks, IsKnown}
use Rattle.digit_make.proofs.Deeper.{none_known}
use Rattle.digit_make.proofs.Growth.{nothing_blocks}
use Rattle.digit_make.proofs.extending.outer_row.Goals as goal

pub returns-in-Some-clause-known : goal.returns-in-Some-clause-known
returns-in-Some-clause-known c =
    let g = c.args.digits.now in
    let row = c.in-Some.row.now in
    IfOk-weaker c.from_slice.result (λ made. made ≡ row) (IsKnown (data_of g.curve) g.basis c.args.m.now)
    (λ made e. subst (IsKnown (data_of g.curve) g.basis c.args.m.now) (sym e) c.in-Some.ensures.known) c.from_slice.ensures

pub returns-in-Some-clause-blocks : goal.returns-in-Some-clause-blocks
returns-in-Some-clause-blocks c =
    let g = c.args.digits.now in
    let row = c.in-Some.row.now in
    IfOk-weaker c.from_slice.result (λ made. made ≡ row) (HasBlocks (length g.basis) 0 (g.depth - 1))
    (λ made e. subst (HasBlocks (length g.basis) 0 (g.depth - 1)) (sym e) c.in-Some.ensures.blocks) c.from_slice.ensures

pub returns-in-None-clause-known : goal.returns-in-None-clause-known
returns-in-None-clause-known c = none_known c.args.digits.now c.args.m.now c.new.result c.basis-basis.ensures.known c.requires c.new.ensures

pub returns-in-None-clause-blocks : goal.returns-in-None-clause-blocks
returns-in-None-clause-blocks c = nothing_blocks (length c.args.digits.now.basis) (c.args.digits.now.depth - 1) c.new.result c.new.ensures
