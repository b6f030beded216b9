use Rattle.std.proofs.Common.{arith}
use Rattle.singular_text.proofs.Numbers.{min_next}
use Rattle.singular_text.proofs.values.number_up_to.Goals as goal

pub loop-digit-preserved : goal.loop-digit-preserved
loop-digit-preserved c = record {
  same = min_next c.args.most c.loop-digit.sum _ c.digit_value.result c.loop-digit.digit-index c.args.digits.now c.loop-digit.invariant.same c.loop-digit-test.true
      c.digit_value.ensures.exact c.min-sum.ensures;
  within = omega arith;
}
