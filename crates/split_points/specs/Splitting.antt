-- What the splitting of A modulo d tells of the points of a curve (Greuel and Pfister, section on primary decomposition in dimension 0).
use Rattle.std.specs.Prelude.{◌≡◌, ◌≢◌, ◌↔◌, ℕ, ◌<◌, List, [], length, slice_index_or}
use Rattle.std.specs.List.{All}
use Rattle.polys.specs.declared.term.Term.{Term}
use Rattle.polys.specs.Terms.{IsPoly, one, sub, mul}
use Rattle.polys.specs.Ideal.{InIdeal}
use Rattle.polys.specs.Curve.{IsOver, data_of}
use Rattle.polys.specs.Reduced.{IsReducedBasis}
use Rattle.curve_model.specs.declared.point.Point.{Point}
use Rattle.curve_model.specs.OneExponent.{InPower}
use Rattle.curve_model.specs.Point.{basis_of}
use Rattle.row_space.specs.Echelon.{IsRow}
use Rattle.row_space.specs.Subspace.{IsZero, product}
use Rattle.frobenius_split.specs.declared.local.LocalPoint.{LocalPoint}
use Rattle.digit_space.specs.Model.{DigitData, IsDigitsOf, IsDigitIn}
use Rattle.split_points.specs.declared.splitting.CurvePoint.{CurvePoint}

-- a polynomial is in the ideal of the point number i
abbrev pub IsAt : DigitData → List (List (List Term)) → ℕ → List Term → Type 0
IsAt g points i f = InIdeal g.curve.prime g.curve.variables (slice_index_or points i []) f

-- the row has the digits of a polynomial e, idempotent modulo I and d, with e - 1 in the ideal of the point number i and e in those of all others
pub record IsIdempotentAt (g : DigitData) (points : List (List (List Term))) (i : ℕ) (row : List ℕ) : Type 0 where
  pub polynomial : List Term
  pub poly : IsPoly g.curve.prime g.curve.variables polynomial
  pub digits : IsDigitsOf g polynomial row
  pub square : InPower (data_of g.curve) 1 (sub g.curve.prime (mul g.curve.prime polynomial polynomial) polynomial)
  pub own : IsAt g points i (sub g.curve.prime polynomial one)
  pub others : (j : ℕ) → j < length points → j ≢ i → IsAt g points j polynomial

-- one such row for each point
pub record AreIdempotentsAt (g : DigitData) (points : List (List (List Term))) (rows : List (List ℕ)) : Type 0 where
  pub count : length rows ≡ length points
  pub each : (i : ℕ) → i < length points → IsIdempotentAt g points i (slice_index_or rows i [])

-- a row of as many residues as the point's degree for each corner; the sum of the rows, each times a digit of f, is 0 exactly where f is
-- in the point's ideal
pub record AreValuesAt (g : DigitData) (point : Point) (values : List (List ℕ)) : Type 0 where
  pub count : length values ≡ length g.basis
  pub rows : All (IsRow g.curve.prime point.degree) values
  pub exact : (f : List Term) (row : List ℕ) → IsPoly g.curve.prime g.curve.variables f → IsDigitsOf g f row
      → IsZero g.curve.prime point.degree (product g.curve.prime point.degree row values) ↔ InIdeal g.curve.prime g.curve.variables (basis_of point) f

-- ---- on the way

-- the point has the reduced basis of the polynomials with digits in the ideal, and all else that is known of it
pub record HasIdeal (g : DigitData) (local : LocalPoint) (made : CurvePoint) : Type 0 where
  pub over : All (IsOver g.curve.prime g.curve.variables) made.point.basis
  pub basis : IsReducedBasis g.curve.prime g.curve.variables (IsDigitIn g local.point.space) (basis_of made.point)
  pub degree : made.point.degree ≡ local.point.degree
  pub idempotent : made.idempotent ≡ local.idempotent
  pub values : made.values ≡ local.values
