use Rattle.chain_laws.proofs.ClosureBound.{closure_bound_law}
use Rattle.chain_laws.proofs.laws.deltas_bound_the_closure.Goals as goal

pub returns : goal.returns
returns c = closure_bound_law
