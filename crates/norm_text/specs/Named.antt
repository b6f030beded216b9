-- The points that a problem names.
use Rattle.std.specs.Prelude.{◌≡◌, ◌⊎◌, ◌↔◌, List, [], map, All, Any, AllPairs, Contains}
use Rattle.std.specs.Ordering.{nat_cmp}
use Rattle.std.specs.Cmp.Lexicographic.{slice_cmp}
use Rattle.std.specs.declared.cmp.Ordering.TheVariants.{Less}
use Rattle.polys.specs.declared.term.Term.{Term}
use Rattle.polys.specs.Ideal.{InIdeal}
use Rattle.polys.specs.Curve.{CurveData}
use Rattle.curve_model.specs.Point.{IsPoint}
use Rattle.poly_text.specs.PolyText.{list_text}
use Rattle.problem.specs.Problem.{ProblemData}

-- P is a point, and where the problem has `at` statements some of them has all its polynomials in the ideal of P
pub record IsNamed (problem : ProblemData) (A : CurveData) (P : List (List Term)) : Type 0 where
  pub point : IsPoint A P
  pub named : (problem.at ≡ []) ⊎ Any (λ statement. All (InIdeal A.prime A.variables P) statement) problem.at

-- the list has all named points, each once, in byte order of their texts
pub record IsNamedList (problem : ProblemData) (A : CurveData) (S : List (List (List Term))) : Type 0 where
  pub all : (P : List (List Term)) → Contains S P ↔ IsNamed problem A P
  pub rising : AllPairs (λ a b. slice_cmp nat_cmp a b ≡ Less) (map (list_text problem.prime problem.letters) S)

-- a problem has one list of named points
abbrev pub OneNamedList : Type 0
OneNamedList =
    (problem : ProblemData) (A : CurveData) (S T : List (List (List Term))) → IsNamedList problem A S → IsNamedList problem A T → S ≡ T
