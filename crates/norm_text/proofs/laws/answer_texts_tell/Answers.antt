-- No text is that of two data in range.
use Rattle.norm_text.proofs.TextsTell.{texts_tell_law}
use Rattle.norm_text.proofs.laws.answer_texts_tell.Goals as goal

pub returns : goal.returns
returns c = texts_tell_law c.texts_tell_polynomials.ensures
