-- The points that a problem names, in any order.
use Rattle.std.specs.Prelude.{◌≢◌, ◌↔◌, List, map, All, AllPairs, Contains}
use Rattle.polys.specs.declared.term.Term.{Term}
use Rattle.polys.specs.Poly.{IsVector}
use Rattle.polys.specs.Curve.{CurveData}
use Rattle.curve_model.specs.declared.point.Point.{Point}
use Rattle.curve_model.specs.Point.{IsPointOf, basis_of}
use Rattle.problem.specs.declared.problem.Problem.{Problem}
use Rattle.problem.specs.Problem.{problem_data}
use Rattle.norm_text.specs.Named.{IsNamed}

-- points of the curve, the named ones and no others, each once
pub record AreNamed (problem : Problem) (A : CurveData) (points : List Point) : Type 0 where
  pub each : All (IsPointOf A) points
  pub all : (P : List (List Term)) → Contains (map basis_of points) P ↔ IsNamed (problem_data problem) A P
  pub distinct : AllPairs (λ P R. P ≢ R) (map basis_of points)

-- what the polynomials of the program say of their terms
abbrev pub HasKnownTerms : Point → Type 0
HasKnownTerms point = All (λ f. IsVector f.prime f.terms) point.basis
