-- Modules of fractions between A and A over a power of d, by rows of digits of their numerators.
use Rattle.std.specs.Prelude.{◌≡◌, ◌↔◌, ℕ, ◌*◌, ◌<◌, List, length, All}
use Rattle.prime_field.specs.Primes.{IsPrime}
use Rattle.monomials.specs.Mono.{Monomial}
use Rattle.comm_ring.specs.Residues.{residue_ops}
use Rattle.comm_ring.specs.Rows.{rows}
use Rattle.comm_ring.specs.Modules.{Independent}
use Rattle.polys.specs.declared.term.Term.{Term}
use Rattle.polys.specs.declared.curve.Curve.{Curve}
use Rattle.polys.specs.Terms.{IsPoly}
use Rattle.polys.specs.Curve.{CurveData, Fit, HasDimModulo, data_of}
use Rattle.curve_model.specs.Fraction.{Fraction, IsFraction, AreEqual, EqualsOver, over, product_of}
use Rattle.curve_model.specs.Closure.{InModule}
use Rattle.curve_model.specs.Laws.{ArePolys}
use Rattle.curve_model.specs.Enlarging.{IsBasisModuloA}
use Rattle.row_space.specs.Subspace.{Subspace, FitsIn}
use Rattle.digit_laws.specs.Digits.{AreCornersOf, HasDigitsIn, IsIdealSpace}

-- what callers see: the curve, the dimension modulo I and d, the power of d, and the rows
pub record OverData : Type 0 where
  pub curve : Curve
  pub dimension : ℕ
  pub power : ℕ
  pub rows : Subspace

-- f equals some b over d^e whose digits at the depth T are in the space
pub record InRows (A : CurveData) (e T : ℕ) (space : Subspace) (f : Fraction) : Type 0 where
  pub corners : List Monomial
  pub known : AreCornersOf A corners
  pub numerator : List Term
  pub poly : IsPoly A.prime A.variables numerator
  pub inside : HasDigitsIn A corners T space numerator
  pub equal : AreEqual A f (over numerator e)

-- f is in the module
abbrev pub InOver : OverData → Fraction → Type 0
InOver o f = InRows (data_of o.curve) o.power o.power o.rows f

-- a fit curve, its dimension, and rows that are an ideal
pub record HasRows (o : OverData) : Type 0 where
  pub prime : IsPrime o.curve.prime
  pub fit : Fit o.curve
  pub dimension : HasDimModulo (data_of o.curve) o.dimension
  pub rows_prime : o.rows.prime ≡ o.curve.prime
  pub rows_width : o.rows.width ≡ o.dimension * o.power
  pub fits : All (FitsIn o.rows) o.rows.basis
  pub independent : Independent (residue_ops o.rows.prime) (rows o.rows.prime o.rows.width) o.rows.basis
  pub corners : List Monomial
  pub known : AreCornersOf (data_of o.curve) corners
  pub ideal : IsIdealSpace (data_of o.curve) corners o.power o.rows

-- a property of fractions is that of a module of polynomials over d^K
pub record IsModuleOver (A : CurveData) (K : ℕ) (B : Fraction → Type 0) : Type 0 where
  pub list : List (List Term)
  pub polys : ArePolys A list
  pub same : (f : Fraction) → IsFraction A f → B f ↔ InModule A K list f

-- some basis modulo A has this many members
pub record HasBasis (A : CurveData) (B : Fraction → Type 0) (r : ℕ) : Type 0 where
  pub fractions : List Fraction
  pub as_many : length fractions ≡ r
  pub basis : IsBasisModuloA A B fractions

-- two modules have the same fractions
abbrev pub HaveSameFractions : OverData → OverData → Type 0
HaveSameFractions o q = (f : Fraction) → IsFraction (data_of o.curve) f → InOver o f ↔ InOver q f

-- no smaller power serves
abbrev pub IsLeastPower : OverData → Type 0
IsLeastPower o = (L : ℕ) → L < o.power → ((f : Fraction) → IsFraction (data_of o.curve) f → InOver o f → EqualsOver (data_of o.curve) L f) → ⊥

-- h takes J into itself
abbrev pub TakesIntoItself : CurveData → (Fraction → Type 0) → Fraction → Type 0
TakesIntoItself A J h = (f : Fraction) → IsFraction A f → J f → J (product_of A h f)
