use Rattle.monomials.proofs.Order.{product_law}
use Rattle.monomials.proofs.laws.products_are_commutative.Goals as goal

pub returns : goal.returns
returns c = product_law
