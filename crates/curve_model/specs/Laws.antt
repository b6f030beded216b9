-- The laws of integral fractions over a curve (Greuel and Pfister, sections on integral closure and on localization).
use Rattle.std.specs.Prelude.{◌≢◌, ◌↔◌, ℕ, ◌*◌, List, [], ◌∷◌, All}
use Rattle.std.specs.List.{Any, AllPairs, AllZip}
use Rattle.prime_field.specs.Primes.{IsPrime}
use Rattle.polys.specs.declared.term.Term.{Term}
use Rattle.polys.specs.Terms.{IsPoly, one, power}
use Rattle.polys.specs.Ideal.{InIdeal}
use Rattle.polys.specs.Curve.{CurveData, HasRegular, HasDimModulo}
use Rattle.curve_model.specs.Fraction.{Fraction, IsFraction, AreEqual, EqualsOver, InA, over, sum_of, product_of}
use Rattle.curve_model.specs.Integral.{Integral}
use Rattle.curve_model.specs.Local.{Local, LocalAt}
use Rattle.curve_model.specs.Point.{IsPoint}
use Rattle.curve_model.specs.Delta.{HasDelta}

-- a curve with a regular denominator: a prime, and polynomials
pub record IsRegular (A : CurveData) : Type 0 where
  pub prime : IsPrime A.prime
  pub ideal : All (IsPoly A.prime A.variables) A.ideal
  pub denominator : IsPoly A.prime A.variables A.denominator
  pub regular : HasRegular A

-- what the laws ask of a curve: a regular denominator, and a finite dimension modulo it
pub record IsFinite (A : CurveData) : Type 0 where
  pub curve : IsRegular A
  pub dimension : (N : ℕ) × HasDimModulo A N

-- a list of polynomials in the variables of A
abbrev pub ArePolys : CurveData → List (List Term) → Type 0
ArePolys A P = All (IsPoly A.prime A.variables) P

-- equal fractions are integral together, and local at a list of polynomials together
abbrev pub EqualFractionsAgree : Type 0
EqualFractionsAgree =
    (A : CurveData) → IsRegular A → (f g : Fraction) → IsFraction A f → IsFraction A g → AreEqual A f g
    → (Integral A f ↔ Integral A g) × ((P : List (List Term)) → ArePolys A P → Local A P f ↔ Local A P g)

-- a^j over d^(kj)
abbrev pub power_of : CurveData → Fraction → ℕ → Fraction
power_of A f j = over (power A.prime f.numerator j) (f.exponent * j)

-- a fraction is integral exactly where one K serves for all its powers, each of them equal to some b over d^K
abbrev pub OnePowerServes : Type 0
OnePowerServes = (A : CurveData) → IsFinite A → (f : Fraction) → IsFraction A f → Integral A f ↔ ((K : ℕ) × ((j : ℕ) → EqualsOver A K (power_of A f j)))

-- sums and products keep a property of fractions
pub record IsClosed (A : CurveData) (W : Fraction → Type 0) : Type 0 where
  pub sum : (f g : Fraction) → IsFraction A f → IsFraction A g → W f → W g → W (sum_of A f g)
  pub product : (f g : Fraction) → IsFraction A f → IsFraction A g → W f → W g → W (product_of A f g)

-- integral fractions are closed under sums and products, and so are local ones
pub record AreClosed (A : CurveData) : Type 0 where
  pub integral : IsClosed A (Integral A)
  pub local : (P : List (List Term)) → ArePolys A P → IsClosed A (Local A P)

abbrev pub FractionsAreClosed : Type 0
FractionsAreClosed = (A : CurveData) → IsFinite A → AreClosed A

-- the ideal of P holds I and d and not 1, and with any other polynomial P generates 1
pub record IsMaximal (A : CurveData) (P : List (List Term)) : Type 0 where
  pub polys : ArePolys A P
  pub holds_ideal : All (InIdeal A.prime A.variables P) A.ideal
  pub holds_denominator : InIdeal A.prime A.variables P A.denominator
  pub proper : InIdeal A.prime A.variables P one → ⊥
  pub maximal : (f : List Term) → IsPoly A.prime A.variables f → (InIdeal A.prime A.variables P f → ⊥) → InIdeal A.prime A.variables (f ∷ P) one

-- two lists of polynomials have one ideal
abbrev pub HaveOneIdeal : CurveData → List (List Term) → List (List Term) → Type 0
HaveOneIdeal A P R = (f : List Term) → IsPoly A.prime A.variables f → InIdeal A.prime A.variables P f ↔ InIdeal A.prime A.variables R f

-- every maximal ideal that holds I and d is that of one of S
abbrev pub HasAllPoints : CurveData → List (List (List Term)) → Type 0
HasAllPoints A S = (P : List (List Term)) → IsMaximal A P → Any (λ R. HaveOneIdeal A R P) S

-- S is a list of points, each once
pub record ArePoints (A : CurveData) (S : List (List (List Term))) : Type 0 where
  pub points : All (IsPoint A) S
  pub distinct : AllPairs (λ P R. P ≢ R) S

-- the sum of a list of fractions
abbrev pub total : CurveData → List Fraction → Fraction
total A [] = over [] 0
total A (f ∷ fs) = sum_of A f (total A fs)

-- f is a sum of one fraction of A and of fractions, one local at each point of S
pub record SumOfParts (A : CurveData) (S : List (List (List Term))) (f : Fraction) : Type 0 where
  pub whole : Fraction
  pub parts : List Fraction
  pub whole_fraction : IsFraction A whole
  pub fractions : All (IsFraction A) parts
  pub whole_in : InA A whole
  pub local : AllZip (Local A) S parts
  pub equal : AreEqual A f (sum_of A whole (total A parts))

-- where S lists all points, a fraction is integral exactly where it is local at S
abbrev pub AllPointsSuffice : Type 0
AllPointsSuffice =
    (A : CurveData) → IsFinite A → (S : List (List (List Term))) → All (IsPoint A) S → HasAllPoints A S
    → (f : Fraction) → IsFraction A f → Integral A f ↔ LocalAt A S f

-- at distinct points, a fraction is local exactly where it is a sum of one of A and of fractions, one local at each
abbrev pub LocalIsSumOfParts : Type 0
LocalIsSumOfParts =
    (A : CurveData) → IsFinite A → (S : List (List (List Term))) → ArePoints A S
    → (f : Fraction) → IsFraction A f → LocalAt A S f ↔ SumOfParts A S f

-- where S lists all points, each once, a fraction is integral exactly where it is such a sum
abbrev pub IntegralIsSumOfParts : Type 0
IntegralIsSumOfParts =
    (A : CurveData) → IsFinite A → (S : List (List (List Term))) → ArePoints A S → HasAllPoints A S
    → (f : Fraction) → IsFraction A f → Integral A f ↔ SumOfParts A S f

-- if a sum of fractions, one local at each of distinct points, is in A, each of them is
abbrev pub PartsAreDirect : Type 0
PartsAreDirect =
    (A : CurveData) → IsFinite A → (S : List (List (List Term))) → ArePoints A S
    → (parts : List Fraction) → All (IsFraction A) parts → AllZip (Local A) S parts → InA A (total A parts) → All (InA A) parts

-- for the empty list of points a fraction is local exactly where it is in A
abbrev pub LocalAtNone : Type 0
LocalAtNone = (A : CurveData) → IsFinite A → (f : Fraction) → IsFraction A f → LocalAt A [] f ↔ InA A f

-- where there is no point, every integral fraction is in A
abbrev pub NoPoints : Type 0
NoPoints = (A : CurveData) → IsFinite A → ((P : List (List Term)) → IsMaximal A P → ⊥) → (f : Fraction) → IsFraction A f → Integral A f → InA A f

-- a finite delta bounds the power: each fraction local at P equals some b over d^delta
abbrev pub DeltaBoundsPower : Type 0
DeltaBoundsPower =
    (A : CurveData) → IsFinite A → (P : List (List Term)) → IsPoint A P → (r : ℕ) → HasDelta A P r
    → (f : Fraction) → IsFraction A f → Local A P f → EqualsOver A r f
