use Rattle.curve_laws.proofs.GeneratorLaws.{one_ideal_law}
use Rattle.curve_laws.proofs.laws.one_ideal_has_one_closure.Goals as goal

pub returns : goal.returns
returns c = one_ideal_law
