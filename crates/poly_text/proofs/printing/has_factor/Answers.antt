use Rattle.std.proofs.Common.{sym, ◌∙◌, ◌<◌, length, arith}
use Rattle.poly_text.proofs.Texts.{is_some-here}
use Rattle.poly_text.proofs.printing.has_factor.Goals as goal

pub returns-then-exponent-ne0 : goal.returns-then-exponent-ne0
returns-then-exponent-ne0 c =
    let within : c.loop-v.v < length c.args.letters.now = omega arith in
    let long : c.loop-v.v < length c.args.mono.now.exponents = omega (arith, c.requires.few, c.requires.seven) in
    sym (c.loop-v.invariant ∙ is_some-here c.args.letters.now c.args.mono.now.exponents c.loop-v.v within long (λ none. c.if-exponent-ne0.true (c.exponent.ensures ∙ none)))
