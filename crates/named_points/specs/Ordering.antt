-- Points and the texts of their bases.
use Rattle.std.specs.Prelude.{◌≡◌, ◌≢◌, ℕ, List, map, codes, AllPairs}
use Rattle.std.specs.List.Sorted.{IsPermutation}
use Rattle.std.specs.Ordering.{nat_cmp}
use Rattle.std.specs.Cmp.Lexicographic.{slice_cmp}
use Rattle.std.specs.declared.cmp.Ordering.TheVariants.{Less}
use Rattle.polys.specs.Curve.{CurveData}
use Rattle.curve_model.specs.declared.point.Point.{Point}
use Rattle.curve_model.specs.Point.{basis_of}
use Rattle.problem.specs.declared.problem.Problem.{Problem}
use Rattle.problem.specs.Problem.{problem_data}
use Rattle.poly_text.specs.PolyText.{join, poly_text}
use Rattle.norm_text.specs.Named.{IsNamedList}
use Rattle.named_points.specs.declared.ordering.TextPoint.{TextPoint}

-- the text of the basis, each polynomial over its own prime
abbrev pub own_text : List ℕ → Point → List ℕ
own_text letters point = join (codes ", ") (map (λ f. poly_text f.prime letters f.terms) point.basis)

-- the point with this text
abbrev pub with_own_text : List ℕ → Point → TextPoint
with_own_text letters point = record { point = point; text = own_text letters point }

-- the one text comes before the other in byte order
abbrev pub Comes : List ℕ → List ℕ → Type 0
Comes a b = slice_cmp nat_cmp a b ≡ Less

-- no two of the points have one text
abbrev pub HaveDistinctTexts : List ℕ → List Point → Type 0
HaveDistinctTexts letters points = AllPairs (λ P R. own_text letters P ≢ own_text letters R) points

-- the points are in byte order of their texts, each of which stands once
abbrev pub AreInTextOrder : List ℕ → List Point → Type 0
AreInTextOrder letters points = AllPairs (λ P R. Comes (own_text letters P) (own_text letters R)) points

-- brought into byte order of their texts the points are the list of the named points
abbrev pub IsListedInOrder : Problem → CurveData → List Point → Type 0
IsListedInOrder problem A points =
    (sorted : List Point) → IsPermutation points sorted → AreInTextOrder problem.letters sorted
    → IsNamedList (problem_data problem) A (map basis_of sorted)
