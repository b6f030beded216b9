use Rattle.split_timing.specs.Powers.{ArePowersOfX}
use Rattle.split_timing.proofs.quotients.powers.Given as goal

abbrev pub invariant-loop-k : goal.invariant-loop-k
invariant-loop-k l = ArePowersOfX l.prime l.n l.matrix l.k l.powers
