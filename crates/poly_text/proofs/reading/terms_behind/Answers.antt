use Rattle.std.proofs.Common.{◌∙◌}
use Rattle.poly_text.proofs.Reader.{all_read}
use Rattle.poly_text.proofs.reading.terms_behind.Goals as goal

pub returns : goal.returns
returns c =
    c.in_ok-finish.ensures
    ∙ all_read c.args.p c.args.letters.now c.args.bytes.now c.loop-byte.terms.items _ c.loop-byte.partial c.loop-byte.byte-index c.loop-byte-test.false c.loop-byte.invariant.same
