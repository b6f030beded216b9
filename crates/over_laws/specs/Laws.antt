-- Laws of modules by rows.
use Rattle.std.specs.Prelude.{◌↔◌, List, length}
use Rattle.monomials.specs.Mono.{Monomial}
use Rattle.polys.specs.Curve.{data_of}
use Rattle.curve_model.specs.Fraction.{Fraction, IsFraction, InA}
use Rattle.curve_model.specs.Closure.{InModule}
use Rattle.digit_laws.specs.Digits.{AreCornersOf, numerators}
use Rattle.over_laws.specs.Over.{OverData, InOver, HasRows, IsModuleOver, HasBasis}

-- the fractions of a module are those of its numerators over d^power, and its rows count a basis modulo A
pub record RowsAreModule (o : OverData) : Type 0 where
  pub exact : (ms : List Monomial) → AreCornersOf (data_of o.curve) ms → (f : Fraction) → IsFraction (data_of o.curve) f
      → InOver o f ↔ InModule (data_of o.curve) o.power (numerators (data_of o.curve) ms o.power o.rows) f
  pub is_module : IsModuleOver (data_of o.curve) o.power (InOver o)
  pub basis : HasBasis (data_of o.curve) (InOver o) (length o.rows.basis)
  pub whole : (f : Fraction) → IsFraction (data_of o.curve) f → InA (data_of o.curve) f → InOver o f

abbrev pub RowsAreModules : Type 0
RowsAreModules = (o : OverData) → HasRows o → RowsAreModule o
