-- The closure at some points as a power of d and numerators.
use Rattle.std.specs.Prelude.{◌↔◌, List}
use Rattle.polys.specs.declared.term.Term.{Term}
use Rattle.polys.specs.Poly.{terms_of}
use Rattle.polys.specs.Curve.{CurveData, data_of}
use Rattle.curve_model.specs.Closure.{Closure}
use Rattle.curve_model.specs.Fraction.{Fraction, IsFraction}
use Rattle.curve_model.specs.Local.{LocalAt}
use Rattle.over_laws.specs.Over.{OverData, InOver}
use Rattle.local_closure.specs.declared.closing.LocalClosure.{LocalClosure}

-- the module has exactly the fractions that are local at S
abbrev pub HoldsLocalAt : OverData → List (List (List Term)) → Type 0
HoldsLocalAt o S = (f : Fraction) → IsFraction (data_of o.curve) f → InOver o f ↔ LocalAt (data_of o.curve) S f

-- the power and the numerators are those of the closure at any points at which the module is what is local
abbrev pub ClosesModule : OverData → LocalClosure → Type 0
ClosesModule o made = (S : List (List (List Term))) → HoldsLocalAt o S → Closure (data_of o.curve) S made.power (terms_of made.numerators)
