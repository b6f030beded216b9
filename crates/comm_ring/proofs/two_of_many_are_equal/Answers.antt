use Rattle.comm_ring.proofs.Pigeons.{pigeonhole}
use Rattle.comm_ring.proofs.two_of_many_are_equal.Goals as goal

pub returns : goal.returns
returns c = pigeonhole
