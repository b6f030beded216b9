use Rattle.std.proofs.Common.{◌++◌, sym, ap, ◌∙◌, append_assoc}
use Rattle.poly_text.specs.TermReading.{terms_in, finished}
use Rattle.poly_text.proofs.Reader.{in_byte, in_sign}
use Rattle.poly_text.proofs.reading.step.Goals as goal

pub returns-then-not-is_sign-clause-terms : goal.returns-then-not-is_sign-clause-terms
returns-then-not-is_sign-clause-terms c rest =
    ap (λ f. c.args.terms.now.items ++ f)
    (
    ap (λ s. terms_in c.args.p c.args.letters.now s rest) c.with_byte.ensures.value
    ∙ sym (in_byte c.args.p c.args.letters.now rest c.args.partial c.args.byte (sym c.is_sign.ensures ∙ c.if-not-is_sign.true))
    )

pub returns-clause-terms : goal.returns-clause-terms
returns-clause-terms c rest =
    (λ i. c.in_ok-finish.ensures i ++ terms_in c.args.p c.args.letters.now (c.new.ensures i) rest)
    ∙ append_assoc c.args.terms.now.items (finished c.args.p c.args.partial) _
    ∙ ap (λ f. c.args.terms.now.items ++ f) (sym (in_sign c.args.p c.args.letters.now rest c.args.partial c.args.byte (sym c.is_sign.ensures ∙ c.if-not-is_sign.false)))
