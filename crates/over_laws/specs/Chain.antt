-- Chains of modules whose fractions are local at a point.
use Rattle.std.specs.Prelude.{◌≡◌, ◌↔◌, ℕ, ◌<◌, ◌≤◌, List, length}
use Rattle.polys.specs.declared.term.Term.{Term}
use Rattle.polys.specs.Curve.{data_of}
use Rattle.curve_model.specs.Fraction.{Fraction, IsFraction, InA}
use Rattle.curve_model.specs.Local.{Local}
use Rattle.curve_model.specs.Point.{IsPoint}
use Rattle.curve_model.specs.Closure.{InModule}
use Rattle.curve_model.specs.Delta.{HasDelta, IsDeltaAbove}
use Rattle.curve_model.specs.Laws.{ArePolys}
use Rattle.curve_model.specs.Rings.{KeepsRadical}
use Rattle.curve_model.specs.Enlarging.{IsLocalRing}
use Rattle.over_laws.specs.Over.{OverData, InOver, HasRows}

-- the module is a ring of fractions that are local at P
pub record IsLocalOver (o : OverData) (P : List (List Term)) : Type 0 where
  pub list : List (List Term)
  pub polys : ArePolys (data_of o.curve) list
  pub same : (f : Fraction) → IsFraction (data_of o.curve) f → InOver o f ↔ InModule (data_of o.curve) o.power list f
  pub ring : IsLocalRing (data_of o.curve) P o.power list

-- the number of rows, which is the dimension modulo A
abbrev pub rank : OverData → ℕ
rank o = length o.rows.basis

-- q has exactly the fractions that take the radical of o at P into itself
pub record IsEnlarged (o : OverData) (P : List (List Term)) (q : OverData) : Type 0 where
  pub curve : q.curve ≡ o.curve
  pub exact : (f : Fraction) → IsFraction (data_of o.curve) f → InOver q f ↔ KeepsRadical (data_of o.curve) P (InOver o) f

-- then q is such a ring, which holds o and has no fewer dimensions; where it has as many, o has exactly the local fractions and
-- counts delta; and delta is above each number below the dimension of q
pub record EnlargementSays (o : OverData) (P : List (List Term)) (q : OverData) : Type 0 where
  pub ring : IsLocalOver q P
  pub holds : (f : Fraction) → IsFraction (data_of o.curve) f → InOver o f → InOver q f
  pub grows : rank o ≤ rank q
  pub full : rank o ≡ rank q → (f : Fraction) → IsFraction (data_of o.curve) f → InOver o f ↔ Local (data_of o.curve) P f
  pub delta : rank o ≡ rank q → HasDelta (data_of o.curve) P (rank o)
  pub above : (L : ℕ) → L < rank q → IsDeltaAbove (data_of o.curve) P L

abbrev pub ChainSteps : Type 0
ChainSteps =
    (o q : OverData) → HasRows o → HasRows q → (P : List (List Term)) → IsPoint (data_of o.curve) P
    → IsLocalOver o P → IsEnlarged o P q → EnlargementSays o P q

-- A itself is such a ring
abbrev pub ChainBegins : Type 0
ChainBegins =
    (o : OverData) → HasRows o → (P : List (List Term)) → IsPoint (data_of o.curve) P
    → ((f : Fraction) → IsFraction (data_of o.curve) f → InOver o f ↔ InA (data_of o.curve) f) → IsLocalOver o P

-- two such modules have one dimension
abbrev pub EnlargementsAreOne : Type 0
EnlargementsAreOne =
    (o q r : OverData) → HasRows o → HasRows q → HasRows r → (P : List (List Term)) → IsPoint (data_of o.curve) P
    → IsLocalOver o P → IsEnlarged o P q → IsEnlarged o P r → rank q ≡ rank r
