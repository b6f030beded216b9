use Rattle.poly_text.proofs.ReadBack.{texts_tell}
use Rattle.poly_text.proofs.reading.texts_tell_polynomials.Goals as goal

pub returns : goal.returns
returns c = texts_tell
