use Rattle.std.proofs.Common.{◌-◌, arith}
use Rattle.standard_monomials.specs.Standard.{polynomial_of}
use Rattle.digit_make.proofs.Deeper.{digits_blocks, outer_digits_of}
use Rattle.digit_make.proofs.extending.digits_at.Goals as goal

pub returns-in-Equal-clause-known : goal.returns-in-Equal-clause-known
returns-in-Equal-clause-known c = (
  c.args.digits.now.depth - 1,
  outer_digits_of c.args.digits.now c.outer-outer.result.now c.args.j c.index-outer-j.result c.index-outer-j-in-Equal.result c.args.m.now c.as_slice.result.now c.outer-outer.ensures
      (omega (arith, c.if-outer-j.false)) c.in-Equal.ensures c.as_slice.ensures,
)

pub returns-in-Equal-clause-blocks : goal.returns-in-Equal-clause-blocks
returns-in-Equal-clause-blocks c =
    digits_blocks c.args.digits.now (c.args.digits.now.depth - 1) (polynomial_of c.args.m.now) c.as_slice.result.now
    (outer_digits_of c.args.digits.now c.outer-outer.result.now c.args.j c.index-outer-j.result c.index-outer-j-in-Equal.result c.args.m.now c.as_slice.result.now c.outer-outer.ensures
    (omega (arith, c.if-outer-j.false)) c.in-Equal.ensures c.as_slice.ensures)
