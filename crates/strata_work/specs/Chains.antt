-- What the chains of one curve share.
use Rattle.std.specs.Prelude.{◌≡◌, ℕ, ◌≤◌}
use Rattle.polys.specs.declared.curve.Curve.{Curve}
use Rattle.lift_colon.specs.Lifted.{LiftedData}
use Rattle.digit_plan.specs.Lifts.{IsLiftedOf}
use Rattle.digit_space.specs.Model.{DigitData}

-- what callers see: the curve, and the limit of delta
pub record WorkData : Type 0 where
  pub curve : Curve
  pub limit : ℕ

abbrev pub work_data : Curve → ℕ → WorkData
work_data c L = record { curve = c; limit = L }

-- the bases and the digits of both depths are of the curve, and the limit is one that is served
pub record AreShared (c : Curve) (L : ℕ) (lifts : LiftedData) (g h : DigitData) : Type 0 where
  pub lifted : IsLiftedOf c lifts
  pub digits : g.curve ≡ c
  pub depth : g.depth ≡ 2
  pub deeper : h.curve ≡ c
  pub some_limit : 1 ≤ L
  pub low_limit : L ≤ 64
