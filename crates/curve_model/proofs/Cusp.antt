-- The cusp over F_7.
use Rattle.std.proofs.Common.{◌≡◌, ℕ, ◌%◌, ◌<◌, [], ◌∷◌, length, refl, ◌∙◌, arith}
use Rattle.std.specs.List.{All}
use Rattle.std.proofs.lemmas.List.Elements.{All-nil, All-cons}
use Rattle.polys.specs.Terms.{IsPoly, one, power}
use Rattle.polys.proofs.Affine.{poly_none}
use Rattle.polys.proofs.Weights.{weigh, mod_plus}
use Rattle.curve_model.specs.Integral.{lower_sum, monic_sum}
use Rattle.curve_model.specs.Fraction.{denominator_power}
use Rattle.curve_model.specs.Examples.{term_of, cusp, ProductIsIntegral, InverseIsNotIntegral}
use Rattle.curve_model.proofs.Origin.{is_zero, at_one, value, value-add, value-power_one, Vanishes, vanishes_member, vanishes_lower}

-- c x^i y^j is a polynomial in two variables
pub poly_of_term : (c i j : ℕ) → 0 < c → c < 7 → IsPoly 7 2 (term_of c i j ∷ [])
poly_of_term c i j h k = record {
  canonical = (h, k, tt, tt);
  affine = (record { seven = refl; first = (refl, (refl, (refl, (refl, (refl, tt))))); plain = refl }, tt);
}

pub product_is_integral : ProductIsIntegral
product_is_integral = record {
  coefficients = [] ∷ (term_of 6 1 0 ∷ []) ∷ [];
  polys =
      All-cons (IsPoly 7 2) [] ((term_of 6 1 0 ∷ []) ∷ []) (poly_none 7 2)
      (All-cons (IsPoly 7 2) (term_of 6 1 0 ∷ []) [] (poly_of_term 6 1 0 (omega arith) (omega arith)) (All-nil (IsPoly 7 2)));
  some = omega arith;
  equation = record {
    factors = (term_of 6 2 0 ∷ []) ∷ [];
    polys = All-cons (IsPoly 7 2) (term_of 6 2 0 ∷ []) [] (poly_of_term 6 2 0 (omega arith) (omega arith)) (All-nil (IsPoly 7 2));
    as_many = refl;
    combined = refl;
  };
}

-- the curve goes through the origin, and so does d
ideal_vanishes : All (Vanishes 7) cusp.ideal
unfolding weigh at_one is_zero
ideal_vanishes = All-cons (Vanishes 7) (term_of 1 3 0 ∷ term_of 6 0 2 ∷ []) [] refl (All-nil (Vanishes 7))

denominator_vanishes : Vanishes 7 (denominator_power cusp 1)
unfolding weigh at_one is_zero
denominator_vanishes = refl

pub inverse_is_not_integral : InverseIsNotIntegral
inverse_is_not_integral h =
    let e = denominator_power cusp 1 in
    let cs = h.coefficients in
    let zero_value : value (monic_sum 7 one e cs) % 7 ≡ 0 = vanishes_member 7 2 cusp.ideal (monic_sum 7 one e cs) ideal_vanishes h.equation in
    let low : value (lower_sum 7 one e 1 cs) % 7 ≡ 0 = vanishes_lower 7 one e 0 cs denominator_vanishes in
    let top : value (power 7 one (length cs)) % 7 ≡ 1 = value-power_one 7 (length cs) refl in
    let one_value : value (monic_sum 7 one e cs) % 7 ≡ 1 =
    value-add 7 (power 7 one (length cs)) (lower_sum 7 one e 1 cs)
    ∙ mod_plus 7 (value (power 7 one (length cs))) 1 (value (lower_sum 7 one e 1 cs)) 0 top low in
    absurd (omega arith)
