use Rattle.split_timing.specs.Powers.{AreProductsOfPowers}
use Rattle.split_timing.proofs.quotients.products.Given as goal

abbrev pub invariant-loop-k : goal.invariant-loop-k
invariant-loop-k l = AreProductsOfPowers l.n l.powers l.k l.rows
