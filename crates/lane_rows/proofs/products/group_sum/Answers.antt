use Rattle.std.proofs.Common.{◌≡◌, ◌+◌, ◌*◌, ◌/◌, length, arith, sym, ◌∙◌, w64}
use Rattle.std.proofs.lemmas.Simd.{adds_fit, sum_fits, sum-zip2, fold-sum, length-zip2}
use Rattle.lane_rows.proofs.Entries.{sum_of_products-take, sum_of_products-chunk_bound}
use Rattle.lane_rows.proofs.products.group_sum.Goals as goal

pub overflow_add-lanes : goal.overflow_add-lanes
overflow_add-lanes c =
    let more = sum_of_products-chunk_bound (c.loop-i.i * 8) 8 c.args.a.now c.args.b.now c.requires.a c.requires.b in
    let is = c.eight_products-lanes.ensures.sum in
    adds_fit w64 c.loop-i.lanes c.eight_products-lanes.result (omega (arith, c.loop-i.invariant.bound))

pub loop-i-preserved : goal.loop-i-preserved
loop-i-preserved c =
    let same : length c.loop-i.lanes ≡ length c.eight_products-lanes.result = c.loop-i.invariant.long ∙ sym c.eight_products-lanes.ensures.long in
    let total = sum-zip2 c.loop-i.lanes c.eight_products-lanes.result same in
    let next : (c.loop-i.i + 1) * 8 ≡ c.loop-i.i * 8 + 8 = omega arith in
    let split = sum_of_products-take (c.loop-i.i * 8) 8 c.args.a.now c.args.b.now c.requires.same_length in
    let more = sum_of_products-chunk_bound (c.loop-i.i * 8) 8 c.args.a.now c.args.b.now c.requires.a c.requires.b in
    record {
      long = length-zip2 _ c.loop-i.lanes c.eight_products-lanes.result same ∙ c.loop-i.invariant.long;
      sum = rw next (total ∙ omega (arith, c.loop-i.invariant.sum, c.eight_products-lanes.ensures.sum, split));
      bound = omega (arith, total, c.loop-i.invariant.bound, c.eight_products-lanes.ensures.sum, more);
    }

pub overflow_add-result : goal.overflow_add-result
overflow_add-result c = sum_fits w64 0 c.loop-i.lanes (omega (arith, c.loop-i.invariant.bound))

pub returns-clause-sum : goal.returns-clause-sum
returns-clause-sum c =
    let last : c.loop-i.i ≡ length c.args.a.now / 8 = omega arith in
    fold-sum 0 c.loop-i.lanes ∙ omega (arith, rw last at c.loop-i.invariant.sum)

pub returns-clause-bound : goal.returns-clause-bound
returns-clause-bound c = omega (arith, fold-sum 0 c.loop-i.lanes, c.loop-i.invariant.bound)
