-- Which points the statements name, by the digits of their polynomials.
use Rattle.std.specs.Prelude.{◌≡◌, ◌≢◌, ◌⊎◌, ℕ, List, [], map, All, Any, AllPairs, Contains}
use Rattle.std.specs.List.{AllZip}
use Rattle.polys.specs.Poly.{Polynomial}
use Rattle.curve_model.specs.declared.point.Point.{Point}
use Rattle.curve_model.specs.Point.{basis_of}
use Rattle.row_space.specs.Subspace.{IsZero, product}
use Rattle.digit_space.specs.Model.{DigitData, IsDigitsOf}
use Rattle.split_points.specs.declared.splitting.CurvePoint.{CurvePoint}

-- the row has the digits of the polynomial
abbrev pub HasDigits : DigitData → Polynomial → List ℕ → Type 0
HasDigits g f row = IsDigitsOf g f.terms row

-- one row of digits for each polynomial
abbrev pub HaveDigits : DigitData → List Polynomial → List (List ℕ) → Type 0
HaveDigits g polys rows = AllZip (HasDigits g) polys rows

-- the polynomials with these digits have the value 0 at the point
abbrev pub IsZeroAt : DigitData → CurvePoint → List ℕ → Type 0
IsZeroAt g local row =
    IsZero g.curve.prime local.point.degree (product g.curve.prime local.point.degree row local.values)

-- there is no statement, or the polynomials of some statement all have the value 0 at the point
abbrev pub IsNamedBy : DigitData → List (List (List ℕ)) → CurvePoint → Type 0
IsNamedBy g statements local = (statements ≡ []) ⊎ Any (All (IsZeroAt g local)) statements

-- the bases of the points are distinct
abbrev pub AreDistinct : List CurvePoint → Type 0
AreDistinct locals = AllPairs (λ a b. basis_of a.point ≢ basis_of b.point) locals

-- of the points that were found these are the named ones, in their order
pub record AreChosen (g : DigitData) (statements : List (List (List ℕ))) (found : List CurvePoint) (points : List Point) : Type 0 where
  pub chosen : List CurvePoint
  pub same : points ≡ map (λ local. local.point) chosen
  pub inside : (local : CurvePoint) → Contains chosen local → Contains found local × IsNamedBy g statements local
  pub covers : (local : CurvePoint) → Contains found local → IsNamedBy g statements local → Contains chosen local
  pub distinct : AreDistinct found → AreDistinct chosen
