use Rattle.std.proofs.Common.{◌<◌, arith}
use Rattle.problem.specs.Letters.{place}
use Rattle.singular_text.proofs.Runs.{letter_place}
use Rattle.singular_text.proofs.values.with_letter.Goals as goal

pub overflow_cast-place : goal.overflow_cast-place
overflow_cast-place c =
    let here : place c.args.letters.now c.args.letter < 6 = letter_place c.args.letters.now c.args.letter c.requires.few c.requires.among in omega (arith, c.place.ensures)

pub raised-requires-clause-variable : goal.raised-requires-clause-variable
raised-requires-clause-variable c =
    let here : place c.args.letters.now c.args.letter < 6 = letter_place c.args.letters.now c.args.letter c.requires.few c.requires.among in omega (arith, c.place.ensures)
