use Rattle.denominator_module.proofs.Lifts.{lift_law}
use Rattle.denominator_module.proofs.laws.normal_forms_give_lifts.Goals as goal

pub returns : goal.returns
returns c = lift_law
