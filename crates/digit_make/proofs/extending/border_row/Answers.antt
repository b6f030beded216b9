use Rattle.std.proofs.Common.{◌≡◌, ◌*◌, ◌-◌, ◌++◌, length, replicate, ap₂, arith}
use Rattle.std.proofs.lemmas.Result.{IfOk-weaker}
use Rattle.polys.specs.Curve.{data_of}
use Rattle.standard_monomials.specs.Standard.{polynomial_of}
use Rattle.digit_space.specs.Model.{width}
use Rattle.digit_make.specs.Blocks.{HasBlocks, IsKnown}
use Rattle.digit_make.proofs.Deeper.{digits_blocks, none_known, padded_digits, width_small}
use Rattle.digit_make.proofs.Growth.{nothing_blocks}
use Rattle.digit_make.proofs.extending.border_row.Goals as goal

pub overflow_mul-wide : goal.overflow_mul-wide
overflow_mul-wide c =
    let g = c.args.digits.now in
    let same : length c.basis.result.now * c.depth.result ≡ width c.args.digits.now = ap₂ (λ ms d. length ms * d) c.basis.ensures.value c.depth.ensures in
    let w = width_small g c.basis.ensures.known in
    omega arith

pub returns-in-Some-clause-known : goal.returns-in-Some-clause-known
returns-in-Some-clause-known c =
    let g = c.args.digits.now in
    let row = c.in-Some.row.now in
    let wide = length c.basis.result.now * c.depth.result in
    IfOk-weaker c.padded.result (λ made. made ≡ row ++ replicate (wide - length row) 0) (IsKnown (data_of g.curve) g.basis c.args.m.now)
    (λ made e. (g.depth, padded_digits g c.args.m.now row made wide c.in-Some.ensures (ap₂ (λ ms d. length ms * d) c.basis.ensures.value c.depth.ensures) e)) c.padded.ensures

pub returns-in-Some-clause-blocks : goal.returns-in-Some-clause-blocks
returns-in-Some-clause-blocks c =
    let g = c.args.digits.now in
    let row = c.in-Some.row.now in
    let wide = length c.basis.result.now * c.depth.result in
    IfOk-weaker c.padded.result (λ made. made ≡ row ++ replicate (wide - length row) 0) (HasBlocks (length g.basis) 0 g.depth)
    (λ made e. digits_blocks g g.depth (polynomial_of c.args.m.now) made
    (padded_digits g c.args.m.now row made wide c.in-Some.ensures (ap₂ (λ ms d. length ms * d) c.basis.ensures.value c.depth.ensures) e)) c.padded.ensures

pub returns-clause-known : goal.returns-clause-known
returns-clause-known c = none_known c.args.digits.now c.args.m.now c.new.result c.basis.ensures.known c.requires c.new.ensures

pub returns-clause-blocks : goal.returns-clause-blocks
returns-clause-blocks c = nothing_blocks (length c.args.digits.now.basis) c.args.digits.now.depth c.new.result c.new.ensures
