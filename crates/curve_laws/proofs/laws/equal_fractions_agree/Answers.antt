use Rattle.curve_laws.proofs.Regulars.{equal_law}
use Rattle.curve_laws.proofs.laws.equal_fractions_agree.Goals as goal

pub returns : goal.returns
returns c = equal_law
