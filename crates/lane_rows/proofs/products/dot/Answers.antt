use Rattle.std.proofs.Common.{◌≡◌, ◌*◌, ◌/◌, length, arith}
use Rattle.lane_rows.proofs.Entries.{blocks_more, blocks_all}
use Rattle.lane_rows.proofs.products.dot.Goals as goal

pub loop-i-preserved : goal.loop-i-preserved
loop-i-preserved c = blocks_more c.args.p c.loop-i.i c.loop-i.total c.block_sum.result c.args.a.now c.args.b.now c.requires.same_length c.loop-i.invariant c.block_sum.ensures.sum

pub returns : goal.returns
returns c =
    let last : c.loop-i.i ≡ length c.args.a.now / 1048576 = omega arith in
    blocks_all c.args.p (length c.args.a.now / 1048576 * 1048576) c.loop-i.total c.block_sum-rest.result c.args.a.now c.args.b.now c.requires.same_length (rw last at c.loop-i.invariant) c.block_sum-rest.ensures.sum
