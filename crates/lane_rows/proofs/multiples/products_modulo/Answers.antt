use Rattle.std.proofs.Common.{get_or}
use Rattle.lane_rows.proofs.Residues.{lane}
use Rattle.lane_rows.proofs.multiples.products_modulo.Goals as goal

pub returns-clause-products : goal.returns-clause-products
returns-clause-products c = λ j h.
    let right = lane c.args.p c.args.c c.args.factor (get_or c.args.y j 0) c.requires.range.0 c.requires.range.1 c.requires.range.2 c.requires.factor (c.requires.residues j h) in
    rw (
      c.least.ensures j h,
      c.difference.ensures j h,
      c.difference-rest.ensures j h,
      c.every-4.ensures j h,
      c.product-3.ensures j h,
      c.every-3.ensures j h,
      c.product-2.ensures j h,
      c.every-2.ensures j h,
      c.upper_half-estimate.ensures j h,
      c.product.ensures j h,
      c.every.ensures j h,
    ) right
