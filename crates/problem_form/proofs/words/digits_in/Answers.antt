use Rattle.std.proofs.Common.{refl, arith, get_or}
use Rattle.problem_form.proofs.Counting.{counted_first, counted_next, counted_all}
use Rattle.problem_form.proofs.words.digits_in.Goals as goal

pub loop-byte-init : goal.loop-byte-init
loop-byte-init c = record { most = counted_first c.args.token.now; counted = omega arith; within = omega arith }

pub loop-byte-preserved : goal.loop-byte-preserved
loop-byte-preserved c =
    let loop = c.loop-byte.invariant in
    record {
      most = counted_next c.args.token.now c.loop-byte.byte-index c.loop-byte.most c.loop-byte.count _ (get_or c.args.token.now c.loop-byte.byte-index 0) _ loop.most c.loop-byte-test.true loop.counted refl c.digits_up_to-count.ensures.exact
          c.max-most.ensures;
      counted = omega arith;
      within = omega arith;
    }

pub returns : goal.returns
returns c = counted_all c.args.token.now c.loop-byte.byte-index c.loop-byte.most c.loop-byte.count c.loop-byte.invariant.most c.loop-byte-test.false c.loop-byte.invariant.counted
