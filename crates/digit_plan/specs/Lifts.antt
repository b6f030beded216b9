-- Bases of a curve, and the lifts of their members.
use Rattle.std.specs.Prelude.{◌≡◌, ℕ, ◌<◌, List, length, slice_index_or}
use Rattle.polys.specs.declared.curve.Curve.{Curve}
use Rattle.polys.specs.Curve.{CurveData}
use Rattle.polys.specs.Poly.{Polynomial, terms_of}
use Rattle.lift_colon.specs.Lifted.{IsLift, LiftedData}

-- the bases are those of the curve's ideal and denominator
pub record IsLiftedOf (c : Curve) (l : LiftedData) : Type 0 where
  pub prime : l.prime ≡ c.prime
  pub variables : l.variables ≡ c.variables
  pub ideal : l.ideal ≡ c.ideal
  pub denominator : l.denominator ≡ c.denominator

-- the curve that bases are of
abbrev pub curve_of_lifted : LiftedData → CurveData
curve_of_lifted l = record { prime = l.prime; variables = l.variables; ideal = terms_of l.ideal; denominator = l.denominator.terms }

-- a lift of each member of the basis of the ideal and the denominator
pub record AreLifts (l : LiftedData) (lifts : List Polynomial) : Type 0 where
  pub count : length lifts ≡ length l.sum
  pub each : (i : ℕ) (d e : Polynomial) → i < length lifts → ((slice_index_or lifts i d).prime ≡ l.prime) × IsLift l (slice_index_or l.sum i e).terms (slice_index_or lifts i d).terms
