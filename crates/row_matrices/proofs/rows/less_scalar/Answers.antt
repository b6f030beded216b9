use Rattle.std.proofs.Common.{◌<◌, ◌≡◌, [], length, arith, ◌∙◌}
use Rattle.row_matrices.proofs.Adding.{less_row}
use Rattle.row_matrices.proofs.rows.less_scalar.Goals as goal

pub returns : goal.returns
returns c =
    let e : c.loop-k.k ≡ length c.args.matrix.now = omega arith in
    let positive : 0 < c.args.prime = omega (arith, c.get-p.ensures.range, c.get-p.ensures.value) in
    record {
      count = c.loop-k.invariant.long ∙ e;
      rows = c.loop-k.invariant.rows;
      less = λ k l. less_row c.args.prime (length c.args.matrix.now) c.args.c k _ _ positive c.requires.c l (c.requires.rows k [] l) (c.loop-k.invariant.entries k (let m : k < c.loop-k.k = omega arith in m));
    }
