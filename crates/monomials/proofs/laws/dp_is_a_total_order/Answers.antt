use Rattle.monomials.proofs.Order.{dp_law}
use Rattle.monomials.proofs.laws.dp_is_a_total_order.Goals as goal

pub returns : goal.returns
returns c = dp_law
