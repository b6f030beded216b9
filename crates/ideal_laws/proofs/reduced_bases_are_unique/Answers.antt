use Rattle.ideal_laws.proofs.Unique.{unique_law}
use Rattle.ideal_laws.proofs.reduced_bases_are_unique.Goals as goal

pub returns : goal.returns
returns c = unique_law
