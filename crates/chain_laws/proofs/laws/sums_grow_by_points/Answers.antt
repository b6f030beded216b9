use Rattle.chain_laws.proofs.StepLaws.{sums_law}
use Rattle.chain_laws.proofs.laws.sums_grow_by_points.Goals as goal

pub returns : goal.returns
returns c = sums_law
