use Rattle.finite_algebra.specs.Projections.{AreFree}
use Rattle.finite_algebra.proofs.projecting.free_places.Given as goal

abbrev pub invariant-loop-k : goal.invariant-loop-k
invariant-loop-k l = AreFree l.rows l.k l.places
