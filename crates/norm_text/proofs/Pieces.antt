-- Texts of several pieces.
use Rattle.std.proofs.Common.{◌≡◌, ℕ, List, [], ◌∷◌, ◌++◌, refl, append_assoc}
use Rattle.std.specs.Prelude.{All, map, codes, decimal}
use Rattle.std.specs.List.{flat_map}
use Rattle.std.proofs.lemmas.List.Elements.{All-head, All-tail}
use Rattle.polys.specs.Poly.{Polynomial}
use Rattle.poly_text.specs.PolyText.{join, poly_text}
use Rattle.norm_text.specs.declared.answer.PointLine.{PointLine}
use Rattle.norm_text.specs.Answer.{point_line, numerator_line, line}
use Rattle.norm_text.specs.Lines.{own_point_line, own_numerator_line}
use Rattle.norm_text.specs.Shown.{point_of}

pub six : (out a b c d e f o1 o2 o3 o4 o5 o6 : List ℕ) → o1 ≡ out ++ a → o2 ≡ o1 ++ b → o3 ≡ o2 ++ c → o4 ≡ o3 ++ d → o5 ≡ o4 ++ e → o6 ≡ o5 ++ f
    → o6 ≡ out ++ (a ++ b ++ c ++ d ++ e ++ f)
six out a b c d e f o1 o2 o3 o4 o5 o6 h1 h2 h3 h4 h5 h6 = rw (h6, h5, h4, h3, h2, h1) (simp append_assoc)

pub five : (a b c d e o1 o2 o3 o4 o5 : List ℕ) → o1 ≡ [] ++ a → o2 ≡ o1 ++ b → o3 ≡ o2 ++ c → o4 ≡ o3 ++ d → o5 ≡ o4 ++ e
    → o5 ≡ a ++ b ++ c ++ d ++ e
five a b c d e o1 o2 o3 o4 o5 h1 h2 h3 h4 h5 = rw (h5, h4, h3, h2, h1) refl

-- polynomials over one prime have their texts over it
pub texts : (p : ℕ) (letters : List ℕ) (fs : List Polynomial) → All (λ f. f.prime ≡ p) fs
    → map (λ f. poly_text f.prime letters f.terms) fs ≡ map (poly_text p letters) (map (λ f. f.terms) fs)
texts p letters [] same = refl
texts p letters (f ∷ fs) same =
    let here : f.prime ≡ p = All-head (λ f. f.prime ≡ p) f fs same in
    (λ i. poly_text (here i) letters f.terms ∷ texts p letters fs (All-tail (λ f. f.prime ≡ p) f fs same) i)

pub point_lines : (p : ℕ) (letters : List ℕ) (points : List PointLine) → All (λ P. All (λ f. f.prime ≡ p) P.point.basis) points
    → flat_map (own_point_line letters) points ≡ flat_map (point_line p letters) (map point_of points)
point_lines p letters [] same = refl
point_lines p letters (P ∷ points) same =
    let here = texts p letters P.point.basis (All-head (λ P. All (λ f. f.prime ≡ p) P.point.basis) P points same) in
    let rest = point_lines p letters points (All-tail (λ P. All (λ f. f.prime ≡ p) P.point.basis) P points same) in
    (λ i. line (codes "point ") (join (codes ", ") (here i) ++ (codes "; degree " ++ (decimal P.point.degree ++ (codes "; delta " ++ decimal P.delta)))) ++ rest i)

pub numerator_lines : (p : ℕ) (letters : List ℕ) (fs : List Polynomial) → All (λ f. f.prime ≡ p) fs
    → flat_map (own_numerator_line letters) fs ≡ flat_map (numerator_line p letters) (map (λ f. f.terms) fs)
numerator_lines p letters [] same = refl
numerator_lines p letters (f ∷ fs) same =
    let here : f.prime ≡ p = All-head (λ f. f.prime ≡ p) f fs same in
    (λ i. line (codes "numerator ") (poly_text (here i) letters f.terms) ++ numerator_lines p letters fs (All-tail (λ f. f.prime ≡ p) f fs same) i)
