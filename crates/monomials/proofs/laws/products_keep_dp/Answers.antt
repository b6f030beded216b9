use Rattle.monomials.proofs.Order.{keep_law}
use Rattle.monomials.proofs.laws.products_keep_dp.Goals as goal

pub returns : goal.returns
returns c = keep_law
