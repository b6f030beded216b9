use Rattle.norm_text.proofs.Cuts.{number_next}
use Rattle.norm_text.proofs.cutting.number.Goals as goal

pub loop-digit-preserved : goal.loop-digit-preserved
loop-digit-preserved c =
    number_next c.args.digits.now c.loop-digit.n c.loop-digit.digit-index c.digit_value.result c.min-n.result _ c.loop-digit-test.true c.loop-digit.invariant c.digit_value.ensures.exact c.min-n.ensures
