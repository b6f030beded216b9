use Rattle.graded_modules.proofs.Reduced.{normal_law}
use Rattle.graded_modules.proofs.laws.remainders_are_normal_forms.Goals as goal

pub returns : goal.returns
returns c = normal_law
