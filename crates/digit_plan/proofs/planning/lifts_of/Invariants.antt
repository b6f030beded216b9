use Rattle.std.proofs.Common.{◌≡◌, ℕ, ◌<◌, length, get_or}
use Rattle.polys.specs.Poly.{Polynomial}
use Rattle.lift_colon.specs.Lifted.{IsLift}
use Rattle.digit_plan.proofs.planning.lifts_of.Given as goal

abbrev pub invariant-loop-i : goal.invariant-loop-i
invariant-loop-i l = record {
  count : length l.lifts ≡ l.i;
  each : (i : ℕ) (d e : Polynomial) → i < length l.lifts → ((get_or l.lifts i d).prime ≡ l.lifted.prime) × IsLift l.lifted (get_or l.lifted.sum i e).terms (get_or l.lifts i d).terms;
}
