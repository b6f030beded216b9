use Rattle.graded_modules.proofs.Members.{module_law}
use Rattle.graded_modules.proofs.laws.modules_are_closed.Goals as goal

pub returns : goal.returns
returns c = module_law
