-- Lines of an answer, each polynomial over its own prime.
use Rattle.std.specs.Prelude.{ℕ, List, ◌++◌, map, codes, decimal}
use Rattle.polys.specs.Poly.{Polynomial}
use Rattle.poly_text.specs.PolyText.{join, poly_text}
use Rattle.norm_text.specs.declared.answer.PointLine.{PointLine}
use Rattle.norm_text.specs.Answer.{line}

abbrev pub own_point_line : List ℕ → PointLine → List ℕ
own_point_line letters P =
    line (codes "point ")
    (join (codes ", ") (map (λ f. poly_text f.prime letters f.terms) P.point.basis)
    ++ (codes "; degree " ++ (decimal P.point.degree ++ (codes "; delta " ++ decimal P.delta))))

abbrev pub own_numerator_line : List ℕ → Polynomial → List ℕ
own_numerator_line letters q = line (codes "numerator ") (poly_text q.prime letters q.terms)
