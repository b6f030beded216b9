use Rattle.std.proofs.Common.{◌∙◌, sym}
use Rattle.singular_text.proofs.Runs.{run_digit, either_behind}
use Rattle.singular_text.proofs.values.with_byte.Goals as goal

pub returns-then-is_ascii_digit-clause-exact : goal.returns-then-is_ascii_digit-clause-exact
returns-then-is_ascii_digit-clause-exact c = sym (run_digit c.args.letters.now c.args.mono c.args.byte c.args.behind.now (sym c.is_ascii_digit.ensures.value ∙ c.if-is_ascii_digit.true))

pub returns-clause-exact : goal.returns-clause-exact
returns-clause-exact c =
    either_behind c.args.letters.now c.args.behind.now c.args.mono c.args.byte c.with_letter.result c.requires.few c.requires.bytes c.requires.known
    (sym c.is_ascii_digit.ensures.value ∙ c.if-is_ascii_digit.false) c.with_letter.ensures.exact
