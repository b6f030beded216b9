-- An answer as plain data, and its text.
use Rattle.std.specs.Prelude.{ℕ, List, [], ◌∷◌, ◌++◌, map, codes, decimal, Option, None, Some}
use Rattle.std.specs.List.{flat_map}
use Rattle.polys.specs.declared.term.Term.{Term}
use Rattle.poly_text.specs.PolyText.{join, poly_text, list_text}

-- a point with its residue degree and its delta
pub record PointData : Type 0 where
  pub basis : List (List Term)
  pub degree : ℕ
  pub delta : ℕ

-- the characteristic, the letters, d, the dimension modulo d, for version 2 the number of named points, the points that
-- have a line, the power and the numerators
pub record AnswerData : Type 0 where
  pub prime : ℕ
  pub letters : List ℕ
  pub denominator : List Term
  pub dimension : ℕ
  pub named : Option ℕ
  pub points : List PointData
  pub power : ℕ
  pub numerators : List (List Term)

-- a line with its line end
abbrev pub line : List ℕ → List ℕ → List ℕ
line word rest = word ++ (rest ++ codes "\n")

-- the first line tells the version
abbrev pub first_line : Option ℕ → List ℕ
first_line None = codes "locnormal 1\n"
first_line (Some n) = codes "locnormal 2\n"

-- the number of named points, in version 2
abbrev pub named_line : Option ℕ → List ℕ
named_line None = []
named_line (Some n) = line (codes "named ") (decimal n)

-- the line of a point
abbrev pub point_line : ℕ → List ℕ → PointData → List ℕ
point_line p letters P =
    line (codes "point ") (list_text p letters P.basis ++ (codes "; degree " ++ (decimal P.degree ++ (codes "; delta " ++ decimal P.delta))))

-- the line of a numerator
abbrev pub numerator_line : ℕ → List ℕ → List Term → List ℕ
numerator_line p letters q = line (codes "numerator ") (poly_text p letters q)

-- the lines before the points
abbrev pub head_text : AnswerData → List ℕ
head_text a =
    first_line a.named
    ++ line (codes "characteristic ") (decimal a.prime)
    ++ line (codes "variables ") (join (codes ",") (map (λ x. x ∷ []) a.letters))
    ++ line (codes "denominator ") (poly_text a.prime a.letters a.denominator)
    ++ line (codes "dimension ") (decimal a.dimension)
    ++ named_line a.named

-- the lines of an answer
abbrev pub answer_text : AnswerData → List ℕ
answer_text a =
    head_text a
    ++ flat_map (point_line a.prime a.letters) a.points
    ++ line (codes "power ") (decimal a.power)
    ++ flat_map (numerator_line a.prime a.letters) a.numerators
    ++ codes "end\n"
