-- What is known of a point whose work is done.
use Rattle.std.specs.Prelude.{◌≡◌, ◌≢◌, ◌↔◌, ℕ, ◌≤◌, List, [], ◌∷◌, ◌++◌, length, Option, None, Some}
use Rattle.std.specs.declared.sync.Arc.{Arc}
use Rattle.prime_field.specs.Primes.{IsPrime}
use Rattle.polys.specs.Curve.{Fit, data_of}
use Rattle.polys.specs.declared.curve.Curve.{Curve}
use Rattle.curve_model.specs.Fraction.{Fraction, IsFraction}
use Rattle.curve_model.specs.Local.{Local}
use Rattle.curve_model.specs.Point.{IsPointOf, basis_of}
use Rattle.curve_model.specs.declared.point.Point.{Point}
use Rattle.curve_model.specs.Delta.{HasDelta, IsDeltaAbove}
use Rattle.over_laws.specs.Over.{OverData, InOver}
use Rattle.over_module.specs.declared.done.Verdict.{Verdict}
use Rattle.over_module.specs.declared.done.Verdict.TheVariants.{Finished, TooLarge}

-- what callers see of work that is done, with its own input
pub record DoneData : Type 0 where
  pub curve : Curve
  pub point : Point
  pub stratum : ℕ
  pub limit : ℕ
  pub verdict : Verdict

-- the module has exactly the fractions that are local at the point, and its dimension is delta and at most the limit
pub record HoldsLocal (curve : Curve) (point : Point) (limit : ℕ) (o : OverData) : Type 0 where
  pub same_curve : o.curve ≡ curve
  pub exact : (f : Fraction) → IsFraction (data_of curve) f → InOver o f ↔ Local (data_of curve) (basis_of point) f
  pub delta : HasDelta (data_of curve) (basis_of point) (length o.rows.basis)
  pub few : length o.rows.basis ≤ limit

-- what a verdict says of its point
abbrev pub Says : Curve → Point → ℕ → Verdict → Type 0
Says curve point limit (Finished o) = HoldsLocal curve point limit o
Says curve point limit TooLarge = IsDeltaAbove (data_of curve) (basis_of point) limit

-- the verdict is right
pub record IsDone (d : DoneData) : Type 0 where
  pub prime : IsPrime d.curve.prime
  pub fit : Fit d.curve
  pub point : IsPointOf (data_of d.curve) d.point
  pub some_limit : 1 ≤ d.limit
  pub low_limit : d.limit ≤ 64
  pub says : Says d.curve d.point d.limit d.verdict

-- the point, if its module is finished
abbrev pub finished_of : Point → Verdict → List Point
finished_of point (Finished o) = point ∷ []
finished_of point TooLarge = []

-- the points whose modules are finished
abbrev pub finished_points : List DoneData → List Point
finished_points [] = []
finished_points (d ∷ ds) = finished_of d.point d.verdict ++ finished_points ds

-- ---- how the program keeps the curve

-- no curve
abbrev pub no_curve : Curve
no_curve = record { prime = 0; variables = 0; ideal = []; denominator = record { prime = 0; terms = [] } }

module _ {Z : Type 0} where
  -- the curve that is kept apart, or that of the module
  abbrev pub curve_of : Option (Arc Curve Z) → Verdict → Curve
  curve_of (Some curve) verdict = curve.value
  curve_of None (Finished o) = o.curve
  curve_of None TooLarge = no_curve

  -- a curve is kept apart exactly where there is no module
  abbrev pub HasOneCurve : Option (Arc Curve Z) → Verdict → Type 0
  HasOneCurve (Some curve) verdict = verdict ≡ TooLarge
  HasOneCurve None verdict = verdict ≢ TooLarge
