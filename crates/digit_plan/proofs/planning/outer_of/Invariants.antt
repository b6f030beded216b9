use Rattle.std.proofs.Common.{ℕ, ◌<◌, length, get_or}
use Rattle.polys.specs.Poly.{Polynomial}
use Rattle.digit_plan.specs.Playing.{IsCovered, IsOuter}
use Rattle.digit_plan.proofs.planning.outer_of.Given as goal

abbrev pub invariant-loop-i : goal.invariant-loop-i
invariant-loop-i l = record {
  outer : IsOuter (length l.order) l.border l.outer.items;
  covered : (j : ℕ) (d : Polynomial) → j < l.i → IsCovered l.corners l.border l.outer.items (get_or l.lifts j d).terms;
}
