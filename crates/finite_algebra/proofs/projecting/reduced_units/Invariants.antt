use Rattle.std.proofs.Common.{◌≡◌, ℕ, ◌<◌, [], length, get_or}
use Rattle.finite_algebra.specs.Projections.{IsClass}
use Rattle.finite_algebra.proofs.projecting.reduced_units.Given as goal

abbrev pub invariant-loop-k : goal.invariant-loop-k
invariant-loop-k l = record {
  long : length l.rows ≡ l.k;
  classes : (j : ℕ) → j < l.k → IsClass l.ideal j (get_or l.rows j []);
}
