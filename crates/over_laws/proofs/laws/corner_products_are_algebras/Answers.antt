use Rattle.over_laws.proofs.BaseAlgebras.{algebras_law}
use Rattle.over_laws.proofs.laws.corner_products_are_algebras.Goals as goal

pub returns : goal.returns
returns c = algebras_law
