use Rattle.std.proofs.Common.{sym, subst, ◌∙◌, length}
use Rattle.poly_text.specs.TermReading.{IsPartialTerm}
use Rattle.poly_text.proofs.Reader.{letter_partial}
use Rattle.poly_text.proofs.reading.PartialTerm.with_byte.Goals as goal

pub returns-then-is_among-clause-known : goal.returns-then-is_among-clause-known
returns-then-is_among-clause-known c =
    subst (IsPartialTerm (length c.args.letters.now)) (sym c.with_letter.ensures)
    (letter_partial c.args.letters.now c.args.self c.args.byte c.requires.few (sym c.is_among.ensures ∙ c.if-is_among.true) c.requires.known)
