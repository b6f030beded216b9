use Rattle.graded_modules.proofs.Reduced.{reduced_law}
use Rattle.graded_modules.proofs.laws.bases_are_reduced_by_their_leads.Goals as goal

pub returns : goal.returns
returns c = reduced_law
