use Rattle.norm_text.proofs.Told.{named_read}
use Rattle.norm_text.proofs.reading.named_count.Goals as goal

pub returns : goal.returns
returns c named rest small is text =
    named_read named c.args.is_second rest c.args.bytes.now c.field.result.0.now c.field.result.1.now c.number.result small c.if-not-is_second.false is text
    c.field.ensures.field c.field.ensures.behind c.number.ensures
