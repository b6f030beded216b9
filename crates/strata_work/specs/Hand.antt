-- The work on strata by one seat.
use Rattle.std.specs.Prelude.{◌≡◌, ℕ, List, []}
use Rattle.polys.specs.declared.curve.Curve.{Curve}
use Rattle.polys.specs.Curve.{Fit}
use Rattle.curve_model.specs.declared.point.Point.{Point}
use Rattle.race_table.specs.declared.view.View.{View}
use Rattle.join_book.specs.Book.{ArePointsOf}

-- what callers see of a hand: the curve and the points that it works, and the limit of delta
pub record HandData : Type 0 where
  pub curve : Curve
  pub points : List Point
  pub limit : ℕ

abbrev pub hand_data : Curve → List Point → ℕ → HandData
hand_data c Ps L = record { curve = c; points = Ps; limit = L }

-- the curve is fit, and the points are points of it, each once
pub record IsHand (c : Curve) (Ps : List Point) : Type 0 where
  pub fit : Fit c
  pub points : ArePointsOf c Ps

-- the pass is the one seat of its table, and has won nothing
pub record IsAlone (v : View) : Type 0 where
  pub seats : v.seats ≡ 1
  pub first : v.first ≡ 1
  pub parts : v.parts ≡ 1
  pub won : v.won ≡ []
