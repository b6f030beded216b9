-- A chain of rings of fractions that are local at a point: each has all fractions that take the radical of the one before it into
-- itself, and the first is A (Greuel and Pfister, section on the algorithm for normalization).
use Rattle.std.specs.Prelude.{◌≡◌, ◌≢◌, ◌↔◌, ℕ, ◌+◌, ◌*◌, ◌-◌, ◌<◌, ◌≤◌, Bool, true, false, Option, None, Some}
use Rattle.std.specs.declared.sync.Arc.{Arc}
use Rattle.polys.specs.declared.curve.Curve.{Curve}
use Rattle.polys.specs.Curve.{data_of}
use Rattle.curve_model.specs.Fraction.{Fraction, IsFraction, InA}
use Rattle.curve_model.specs.Point.{IsPointOf, basis_of}
use Rattle.curve_model.specs.declared.point.Point.{Point}
use Rattle.digit_space.specs.Model.{DigitData}
use Rattle.over_laws.specs.Over.{OverData, InOver, HasRows, IsLeastPower}
use Rattle.over_laws.specs.Chain.{IsLocalOver, IsEnlarged, rank}
use Rattle.over_module.specs.Done.{DoneData, IsDone}
use Rattle.over_module.specs.declared.done.Verdict.TheVariants.{TooLarge}

-- what callers see of a chain: the point with its number, the limit of delta, the digits that are kept, the ring that was reached, and
-- whether its work is done
pub record ChainData : Type 0 where
  pub point : Point
  pub stratum : ℕ
  pub limit : ℕ
  pub digits : DigitData
  pub over : OverData
  pub whole : Bool

-- the ring's fractions are local at the point, its power is least and at most its dimension modulo A, and the digits are as deep as its
-- next enlargement needs
pub record IsChain (c : ChainData) : Type 0 where
  pub point : IsPointOf (data_of c.over.curve) c.point
  pub some_limit : 1 ≤ c.limit
  pub low_limit : c.limit ≤ 64
  pub digits_curve : c.digits.curve ≡ c.over.curve
  pub local : IsLocalOver c.over (basis_of c.point)
  pub least : IsLeastPower c.over
  pub low_power : c.over.power ≤ rank c.over
  pub depth : c.digits.depth ≡ 2 * c.over.power + 2

-- more than the enlargements that may be left
abbrev pub left_of : ChainData → ℕ
left_of c = c.limit + 1 - rank c.over

-- the chain stands at its first ring, which is A, with this work to do
pub record IsStarted (C : Curve) (P : Point) (i L : ℕ) (c : ChainData) : Type 0 where
  pub curve : c.over.curve ≡ C
  pub point : c.point ≡ P
  pub stratum : c.stratum ≡ i
  pub limit : c.limit ≡ L
  pub plain : (f : Fraction) → IsFraction (data_of C) f → InOver c.over f ↔ InA (data_of C) f
  pub open_still : c.whole ≡ false

-- the curve, the point, its number and the limit stay
pub record IsSameWork (old new : ChainData) : Type 0 where
  pub curve : new.over.curve ≡ old.over.curve
  pub point : new.point ≡ old.point
  pub stratum : new.stratum ≡ old.stratum
  pub limit : new.limit ≡ old.limit

-- the ring is now that of all fractions that take the radical of the old one into itself; it is larger, and within the limit
pub record IsMore (old new : ChainData) : Type 0 where
  pub work : IsSameWork old new
  pub enlarged : IsEnlarged old.over (basis_of old.point) new.over
  pub larger : rank old.over < rank new.over
  pub within : rank new.over ≤ old.limit
  pub open_still : new.whole ≡ false

-- that ring has more dimensions modulo A than the limit
abbrev pub GrowsAbove : ChainData → Type 0
GrowsAbove c = (q : OverData) × HasRows q × IsEnlarged c.over (basis_of c.point) q × (c.limit < rank q)

-- what is done is this chain's work
pub record IsDoneBy (c : ChainData) (done : DoneData) : Type 0 where
  pub curve : done.curve ≡ c.over.curve
  pub point : done.point ≡ c.point
  pub stratum : done.stratum ≡ c.stratum
  pub limit : done.limit ≡ c.limit
  pub known : IsDone done

-- and has a ring, which has exactly the fractions that are local at the point
abbrev pub IsFinishedWork : ChainData → DoneData → Type 0
IsFinishedWork c done = IsDoneBy c done × (done.verdict ≢ TooLarge)

-- or has found that delta is above the limit
abbrev pub IsWorkAbove : ChainData → DoneData → Type 0
IsWorkAbove c done = IsDoneBy c done × (done.verdict ≡ TooLarge)

-- the work is done; it is too large exactly where the next ring has more dimensions than the limit, and else its ring has exactly
-- the fractions that are local at the point
pub record IsWhole (old new : ChainData) (d : DoneData) : Type 0 where
  pub work : IsSameWork old new
  pub done : IsDoneBy old d
  pub too_large : (d.verdict ≡ TooLarge) ↔ GrowsAbove old
  pub closed : new.whole ≡ true

-- ---- how the program keeps digits

module _ {Z : Type 0} where
  -- deeper digits that are at hand are of this curve
  abbrev pub AreOfCurve : Curve → Option (Arc DigitData Z) → Type 0
  AreOfCurve curve None = Unit {0}
  AreOfCurve curve (Some digits) = digits.value.curve ≡ curve
