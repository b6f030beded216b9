use Rattle.curve_laws.proofs.SplitLaws.{direct_law}
use Rattle.curve_laws.proofs.laws.parts_are_direct.Goals as goal

pub returns : goal.returns
returns c = direct_law
