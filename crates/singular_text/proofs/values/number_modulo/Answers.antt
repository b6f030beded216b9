use Rattle.std.proofs.Common.{refl, ◌<◌, arith}
use Rattle.singular_text.proofs.Numbers.{modulo_next, residue_below}
use Rattle.singular_text.proofs.values.number_modulo.Goals as goal

pub loop-digit-preserved : goal.loop-digit-preserved
loop-digit-preserved c =
    let positive : 0 < c.get-p.result = omega (arith, c.get-p.ensures.range.0) in
    record {
      same = modulo_next c.get-p.result c.loop-digit.sum _ c.digit_value.result c.loop-digit.digit-index c.args.digits.now positive c.loop-digit.invariant.same c.loop-digit-test.true
          c.digit_value.ensures.exact refl;
      residue = residue_below _ c.get-p.result positive;
    }
