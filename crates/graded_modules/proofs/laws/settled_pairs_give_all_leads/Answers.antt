use Rattle.graded_modules.proofs.Bases.{basis_law}
use Rattle.graded_modules.proofs.laws.settled_pairs_give_all_leads.Goals as goal

pub returns : goal.returns
returns c = basis_law
