-- The plane over F_7 with the unit d = 2, and the line with I = (x - 1) and d = x.
use Rattle.std.proofs.Common.{◌≡◌, ℕ, ◌<◌, zero, suc, List, [], ◌∷◌, refl, sym, ap, ◌∙◌, subst, arith}
use Rattle.std.proofs.lemmas.List.Elements.{All-nil, All-cons}
use Rattle.polys.specs.declared.term.Term.{Term}
use Rattle.polys.specs.Terms.{IsPoly, sub, mul, one, power}
use Rattle.polys.specs.Ideal.{InIdeal}
use Rattle.polys.proofs.Sums.{mul_assoc, mul_comm}
use Rattle.polys.proofs.Units.{mul_one, sub_self, add_none}
use Rattle.polys.proofs.Affine.{poly_one, poly_mul, poly_power, sevens_of}
use Rattle.ideal_laws.proofs.Ideals.{in_none, in_mul}
use Rattle.curve_model.specs.Examples.{term_of, PlaneHasNoPoint, PlaneHasNoFractions, OnePointHasDimensionZero}
use Rattle.curve_model.proofs.Cusp.{poly_of_term}

two : List Term
two = term_of 2 0 0 ∷ []

four : List Term
four = term_of 4 0 0 ∷ []

four_poly : IsPoly 7 2 four
unfolding four
four_poly = poly_of_term 4 0 0 (omega arith) (omega arith)

-- 2 times 4 is 1
eight : mul 7 four two ≡ one
unfolding two four
eight = refl

pub plane_has_no_point : PlaneHasNoPoint
unfolding two
plane_has_no_point P h = h.proper (subst (InIdeal 7 2 P) eight (in_mul 7 2 P four two (omega arith) four_poly h.holds_denominator))

powers : (k : ℕ) → mul 7 (power 7 four k) (power 7 two k) ≡ one
powers zero = mul_one 7 one (poly_one 7 2 (omega arith)).canonical (sevens_of 7 2 one (poly_one 7 2 (omega arith)))
powers (suc k) =
    mul_assoc 7 four (power 7 four k) (mul 7 two (power 7 two k))
    ∙ ap (mul 7 four) (sym (mul_assoc 7 (power 7 four k) two (power 7 two k)) ∙ ap (λ w. mul 7 w (power 7 two k)) (mul_comm 7 (power 7 four k) two) ∙ mul_assoc 7 two (power 7 four k) (power 7 two k) ∙ ap (mul 7 two) (powers k))
    ∙ sym (mul_assoc 7 four two one)
    ∙ ap (λ w. mul 7 w one) eight
    ∙ mul_one 7 one (poly_one 7 2 (omega arith)).canonical (sevens_of 7 2 one (poly_one 7 2 (omega arith)))

pub plane_has_no_fractions : PlaneHasNoFractions
unfolding two
plane_has_no_fractions f h = (b, b_poly, subst (InIdeal 7 2 []) (sym zero_difference) (in_none 7 2 []))
  where
    a : List Term
    a = f.numerator

    k : ℕ
    k = f.exponent

    b : List Term
    b = mul 7 a (power 7 four k)

    b_poly : IsPoly 7 2 b
    b_poly = poly_mul 7 2 a (power 7 four k) (omega arith) h (poly_power 7 2 four k (omega arith) four_poly)

    left : mul 7 a one ≡ a
    left = mul_one 7 a h.canonical (sevens_of 7 2 a h)

    right : mul 7 b (power 7 two k) ≡ a
    right = mul_assoc 7 a (power 7 four k) (power 7 two k) ∙ ap (mul 7 a) (powers k) ∙ left

    zero_difference : sub 7 (mul 7 a one) (mul 7 b (power 7 two k)) ≡ []
    zero_difference = (λ i. sub 7 (left i) (right i)) ∙ sub_self 7 a (omega arith)

-- ---- the line

line : List (List Term)
line = (term_of 1 1 0 ∷ []) ∷ (term_of 1 1 0 ∷ term_of 6 0 0 ∷ []) ∷ []

one_in_line : InIdeal 7 1 line one
unfolding line
one_in_line = record {
  factors = one ∷ (term_of 6 0 0 ∷ []) ∷ [];
  polys =
      All-cons (IsPoly 7 1) one ((term_of 6 0 0 ∷ []) ∷ []) (poly_one 7 1 (omega arith)) (All-cons (IsPoly 7 1) (term_of 6 0 0 ∷ []) [] six (All-nil (IsPoly 7 1)));
  as_many = refl;
  combined = refl;
}
  where
    six : IsPoly 7 1 (term_of 6 0 0 ∷ [])
    six = record {
      canonical = (omega arith, omega arith, tt, tt);
      affine = (record { seven = refl; first = (refl, (refl, (refl, (refl, (refl, (refl, tt)))))); plain = refl }, tt);
    }

pub one_point_has_dimension_zero : OnePointHasDimensionZero
unfolding line
one_point_has_dimension_zero = record {
  basis = [];
  as_many = refl;
  spans = record {
    polys = All-nil (IsPoly 7 1);
    each = λ f h. record {
      residues = [];
      below = All-nil (λ c. c < 7);
      as_many = refl;
      close = subst (InIdeal 7 1 line) (mul_one 7 f h.canonical (sevens_of 7 1 f h) ∙ sym (add_none 7 f h.canonical)) (in_mul 7 1 line f one (omega arith) h one_in_line);
    };
  };
  least = λ us l s. absurd (omega arith);
}
