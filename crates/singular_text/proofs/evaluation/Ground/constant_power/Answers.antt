use Rattle.std.proofs.Common.{◌≡◌, ◌<◌, ◌∙◌, ◌+◌, ◌*◌, ◌-◌, length, arith, ap, sym, get_or}
use Rattle.polys.specs.Ring.{AreClosed}
use Rattle.polys.specs.Poly.{power_of}
use Rattle.singular_text.proofs.Numbers.{at_digit}
use Rattle.singular_text.proofs.Fits.{IsPowerOf, plain_fit, power_of_fit, power_next}
use Rattle.singular_text.proofs.evaluation.Ground.constant_power.Goals as goal

pub power-requires-clause-plain : goal.power-requires-clause-plain
power-requires-clause-plain c = plain_fit c.args.self.now.prime (length c.args.self.now.letters) c.args.base.now c.requires.fit

pub power-requires-in-loop-digit-clause-plain : goal.power-requires-in-loop-digit-clause-plain
power-requires-in-loop-digit-clause-plain c = plain_fit c.args.self.now.prime (length c.args.self.now.letters) c.loop-digit.power c.loop-digit.invariant.power.fit

pub power-requires-in-loop-digit-2-clause-plain : goal.power-requires-in-loop-digit-2-clause-plain
power-requires-in-loop-digit-2-clause-plain c = plain_fit c.args.self.now.prime (length c.args.self.now.letters) c.args.base.now c.requires.fit

pub mul-requires-clause-plain : goal.mul-requires-clause-plain
mul-requires-clause-plain c =
    let p = c.args.self.now.prime in
    let n = length c.args.self.now.letters in
    let above : 1 < p = omega (arith, c.get-prime.ensures.range.0, c.get-prime.ensures.value) in
    let power : IsPowerOf p n c.args.base.now c.in_ok-power-2.field-0 c.digit_value.result =
    power_of_fit p n c.args.base.now c.in_ok-power-2.field-0 c.digit_value.result (c.polynomials_are_a_ring.ensures.closed p n above) c.degrees_are_bounded.ensures.power c.requires.fit
    c.requires.constant c.in_ok-power-2.ensures in
    plain_fit p n c.in_ok-power-2.field-0 power.fit

pub loop-digit-preserved : goal.loop-digit-preserved
loop-digit-preserved c =
    let p = c.args.self.now.prime in
    let n = length c.args.self.now.letters in
    let above : 1 < p = omega (arith, c.get-prime.ensures.range.0, c.get-prime.ensures.value) in
    let closed : AreClosed p n = c.polynomials_are_a_ring.ensures.closed p n above in
    let read = c.loop-digit.invariant.read in
    let d = get_or c.args.digits.now c.loop-digit.digit-index 0 - 48 in
    let next : c.in_ok-power-3.power ≡ power_of c.args.base.now (read * 10 + d) =
    power_next p n c.args.base.now c.loop-digit.power c.in_ok-tenth.tenth c.in_ok-power-2.field-0 c.in_ok-power-3.power read d c.polynomials_are_a_ring.ensures.laws closed c.requires.fit
    c.loop-digit.invariant.power.value c.in_ok-tenth.ensures (c.in_ok-power-2.ensures ∙ ap (power_of c.args.base.now) c.digit_value.ensures.exact) c.in_ok-power-3.ensures in
    record {
      read = read * 10 + d;
      same = sym (at_digit c.args.digits.now c.loop-digit.digit-index read c.loop-digit-test.true) ∙ c.loop-digit.invariant.same;
      power = power_of_fit p n c.args.base.now c.in_ok-power-3.power (read * 10 + d) closed c.degrees_are_bounded.ensures.power c.requires.fit c.requires.constant next;
    }
