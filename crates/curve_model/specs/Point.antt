-- Points: the maximal ideals that hold I and d.
use Rattle.std.specs.Prelude.{ℕ, List, ◌∷◌, map, All}
use Rattle.polys.specs.declared.term.Term.{Term}
use Rattle.polys.specs.Terms.{IsPoly, one}
use Rattle.polys.specs.Ideal.{InIdeal, HasDim}
use Rattle.polys.specs.Reduced.{Reduced}
use Rattle.polys.specs.Curve.{CurveData, IsOver}
use Rattle.curve_model.specs.declared.point.Point.{Point}

-- P is the reduced basis of a maximal ideal that holds I and d
pub record IsPoint (A : CurveData) (P : List (List Term)) : Type 0 where
  pub reduced : Reduced A.prime A.variables P
  pub holds_ideal : All (InIdeal A.prime A.variables P) A.ideal
  pub holds_denominator : InIdeal A.prime A.variables P A.denominator
  pub proper : InIdeal A.prime A.variables P one → ⊥
  pub maximal : (f : List Term) → IsPoly A.prime A.variables f → (InIdeal A.prime A.variables P f → ⊥) → InIdeal A.prime A.variables (f ∷ P) one

-- the dimension of the polynomials modulo P over F_p
abbrev pub HasDegree : CurveData → List (List Term) → ℕ → Type 0
HasDegree A P N = HasDim A.prime A.variables P N

-- the basis of a point of the program, as lists of terms
abbrev pub basis_of : Point → List (List Term)
basis_of point = map (λ f. f.terms) point.basis

-- the data are a point of A and its degree
pub record IsPointOf (A : CurveData) (point : Point) : Type 0 where
  pub over : All (IsOver A.prime A.variables) point.basis
  pub is_point : IsPoint A (basis_of point)
  pub degree : HasDegree A (basis_of point) point.degree
