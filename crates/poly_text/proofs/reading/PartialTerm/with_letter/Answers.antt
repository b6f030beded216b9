use Rattle.std.proofs.Common.{◌≤◌, length, arith}
use Rattle.problem.specs.Letters.{place}
use Rattle.problem.proofs.Places.{place_most}
use Rattle.poly_text.proofs.reading.PartialTerm.with_letter.Goals as goal

pub overflow_cast-result : goal.overflow_cast-result
overflow_cast-result c =
    let most : place c.args.letters.now c.args.letter ≤ length c.args.letters.now = place_most c.args.letters.now c.args.letter in omega (arith, c.place.ensures, c.requires.few)
