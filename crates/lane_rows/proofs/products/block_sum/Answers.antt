use Rattle.std.proofs.Common.{◌<◌, get_or, arith}
use Rattle.std.proofs.lemmas.Nat.{mul-le}
use Rattle.lane_rows.proofs.Entries.{sum_of_products_more}
use Rattle.lane_rows.proofs.products.block_sum.Goals as goal

pub loop-k-preserved : goal.loop-k-preserved
loop-k-preserved c =
    let more = sum_of_products_more c.loop-k.k c.args.a.now c.args.b.now c.requires.same_length (omega arith) in
    let x : get_or c.args.a.now c.loop-k.k 0 < 32768 = c.requires.a c.loop-k.k 0 (omega arith) in
    let y : get_or c.args.b.now c.loop-k.k 0 < 32768 = c.requires.b c.loop-k.k 0 (omega arith) in
    let product = mul-le (get_or c.args.a.now c.loop-k.k 0) (get_or c.args.b.now c.loop-k.k 0) 32768 32768 (omega arith) (omega arith) in
    record {
      sum = omega (arith, more, c.loop-k.invariant.sum);
      bound = omega (arith, product, c.loop-k.invariant.bound);
    }
