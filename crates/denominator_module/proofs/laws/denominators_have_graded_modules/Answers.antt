use Rattle.denominator_module.proofs.Stated.{graded_law}
use Rattle.denominator_module.proofs.laws.denominators_have_graded_modules.Goals as goal

pub returns : goal.returns
returns c = graded_law
