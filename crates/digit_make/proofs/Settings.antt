-- A plan has the curve and the corners that the lemmas on blocks ask for.
use Rattle.std.proofs.Common.{◌≡◌, ℕ, suc, ◌*◌, ◌++◌, List, [], ◌∷◌, length, map, refl, ap, sym, ◌∙◌, subst, arith}
use Rattle.std.proofs.lemmas.List.{length-map}
use Rattle.prime_field.proofs.Table.{above_one}
use Rattle.monomials.specs.Mono.{Monomial}
use Rattle.polys.specs.Terms.{IsAffine, add, mul}
use Rattle.polys.specs.Ideal.{number_combination}
use Rattle.polys.specs.Curve.{CurveData}
use Rattle.curve_model.specs.Laws.{IsFinite}
use Rattle.curve_laws.proofs.FitLaws.{fit_law}
use Rattle.standard_monomials.specs.Standard.{polynomial_of}
use Rattle.digit_laws.specs.Digits.{AreCornersOf, AreDigits, places, spread, value}
use Rattle.digit_laws.proofs.DigitLaws.{digit_law, span, times_polys, place_polys, appended, pushed, numbers_poly}
use Rattle.digit_laws.proofs.Blocks.{block_law}
use Rattle.digit_make.specs.Blocks.{IsKnown}
use Rattle.digit_plan.specs.declared.plan.Plan.{Plan}
use Rattle.digit_plan.specs.Planned.{IsPlan, curve_of}
use Rattle.digit_plan.proofs.Corners.{corners_affine}
use Rattle.digit_make.proofs.Expansion.{IsSetting}

split : (A : CurveData) (c : IsFinite A) (ms : List Monomial) (k : AreCornersOf A ms) (T : ℕ) (a b : List ℕ) → length a ≡ length ms
    → value A ms (suc T) (a ++ b) ≡ add A.prime (number_combination A.prime a (map polynomial_of ms)) (mul A.prime A.denominator (value A ms T b))
unfolding spread
split A c ms k T a b l =
    appended A c ms k a b (map polynomial_of ms) (map (mul A.prime A.denominator) (places A ms T)) (span A c ms k).polys (times_polys A c ms k (places A ms T) (place_polys A c ms k T)) (l ∙ sym (length-map ms polynomial_of))
    ∙ ap (add A.prime (number_combination A.prime a (map polynomial_of ms))) (pushed A c ms k b (places A ms T) (place_polys A c ms k T))

pub setting_of : (A : CurveData) → IsFinite A → (ms : List Monomial) → AreCornersOf A ms → IsSetting A ms
setting_of A c ms k = record {
  prime = c.curve.prime;
  denominator = c.curve.denominator;
  affine = corners_affine A ms k;
  laws = digit_law A c ms k;
  blocks = block_law A c ms k;
  numbers = λ cs. numbers_poly A c ms k cs (map polynomial_of ms) (span A c ms k).polys;
  split = split A c ms k;
}

pub setting : (plan : Plan) → IsPlan plan → IsSetting (curve_of plan) plan.corners
setting plan h = setting_of (curve_of plan) (fit_law plan.curve.value h.prime h.fit) plan.corners h.corners

-- no digits are those at the depth 0
pub nothing_known : (A : CurveData) (ms : List Monomial) → IsSetting A ms → (m : Monomial) → IsAffine A.variables m → IsKnown A ms m []
nothing_known A ms s m f =
    let r = (s.laws 0).exist (polynomial_of m) (record { canonical = ((omega arith), above_one A.prime s.prime, tt, tt); affine = (f, tt) }) in
    (0, subst (AreDigits A ms 0 (polynomial_of m)) (none_from r.0 (r.1.fits.0 ∙ (let w : length ms * 0 ≡ 0 = omega arith in w))) r.1)
  where
    none_from : (row : List ℕ) → length row ≡ 0 → row ≡ []
    none_from [] l = refl
    none_from (x ∷ row) l = absurd (omega arith)
