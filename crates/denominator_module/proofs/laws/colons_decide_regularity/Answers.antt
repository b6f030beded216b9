use Rattle.denominator_module.proofs.Colons.{regular_law}
use Rattle.denominator_module.proofs.laws.colons_decide_regularity.Goals as goal

pub returns : goal.returns
returns c = regular_law
