-- On the cusp each integral fraction equals some b over d, and x y over d none over 1.
use Rattle.std.proofs.Common.{◌≡◌, ℕ, ◌+◌, ◌-◌, ◌*◌, ◌%◌, ◌/◌, ◌≤◌, zero, suc, List, [], ◌∷◌, refl, sym, ap, ◌∙◌, arith}
use Rattle.std.specs.List.{All}
use Rattle.std.proofs.lemmas.List.Elements.{All-nil, All-cons}
use native.Mathlib.Nat.{mul-add-mod_self_left}
use Rattle.monomials.specs.Mono.{Monomial}
use Rattle.polys.specs.declared.term.Term.{Term}
use Rattle.polys.specs.Terms.{EachMono, IsAffine, IsPoly, mul, sub, multiple, scaled, normal}
use Rattle.polys.proofs.Weights.{weigh, weigh-append, weigh-normal, mod_plus}
use Rattle.polys.proofs.Units.{weigh-scaled}
use Rattle.polys.proofs.Affine.{poly_normal, poly_mul, poly_sub}
use Rattle.ideal_laws.proofs.Unique.{contains_head}
use Rattle.curve_model.specs.Fraction.{Fraction, IsFraction, EqualsOver, denominator_power, over}
use Rattle.curve_model.specs.Integral.{Integral}
use Rattle.curve_model.specs.Local.{LocalAt}
use Rattle.curve_model.specs.Laws.{ArePolys}
use Rattle.curve_model.specs.Examples.{term_of, cusp, origin, CuspNeedsOnePower}
use Rattle.curve_model.proofs.Cusp.{poly_of_term}
use Rattle.curve_model.proofs.CuspLocal.{product_is_local}
use Rattle.curve_model.proofs.TwoVariables.{affine_mono, origin_polys}
use Rattle.curve_model.proofs.Tests.{on}
use Rattle.curve_model.proofs.CuspWeights.{weights, at_weight, member_of_tests, product_is_not_whole}
use Rattle.curve_laws.proofs.PointSetLaws.{local_at}
use Rattle.curve_examples.proofs.CuspDimension.{cusp_is_finite}
use Rattle.curve_examples.proofs.CuspOrders.{sum_at, alike_at, order_same, product_at, denominator_poly, integral_order}

square_poly : IsPoly 7 2 (term_of 1 2 0 ∷ [])
square_poly = poly_of_term 1 2 0 (omega arith) (omega arith)

-- the sum over d^k is the value at 4 k
denominator_at : (k : ℕ) (φ : ℕ → ℕ) → sum_at φ (denominator_power cusp k) % 7 ≡ φ (k * 4) % 7
unfolding weigh
denominator_at zero φ = let e : 1 * φ 0 + 0 ≡ φ 0 = omega arith in let z : 0 ≡ 0 * 4 = omega arith in ap (λ (n : ℕ). n % 7) (e ∙ ap φ z)
denominator_at (suc k) φ =
    let e : 1 * sum_at (λ j. φ (4 + j)) (denominator_power cusp k) + 0 ≡ sum_at (λ j. φ (4 + j)) (denominator_power cusp k) = omega arith in
    let s : 4 + k * 4 ≡ suc k * 4 = omega arith in
    product_at φ (term_of 1 2 0 ∷ []) (denominator_power cusp k) square_poly (denominator_poly k)
    ∙ ap (λ (n : ℕ). n % 7) e
    ∙ denominator_at k (λ j. φ (4 + j))
    ∙ ap (λ n. φ n % 7) s

-- each term with the monomial whose weight is greater by 4 and less by 4 k
abbrev moved : ℕ → Monomial → Monomial
moved k m = at_weight ((on (weights (λ n. n)) m + 4) - k * 4)

unfoldable shifted : ℕ → List Term → List Term
shifted k [] = []
shifted k (t ∷ f) = record { coeff = t.coeff; mono = moved k t.mono } ∷ shifted k f

weigh-shifted : (k : ℕ) (χ : Monomial → ℕ) (f : List Term) → weigh χ (shifted k f) ≡ sum_at (λ w. χ (at_weight ((w + 4) - k * 4))) f
unfolding weigh shifted
weigh-shifted k χ [] = refl
weigh-shifted k χ (t ∷ f) = ap (λ (n : ℕ). t.coeff * χ (moved k t.mono) + n) (weigh-shifted k χ f)

shifted_affine : (k : ℕ) (f : List Term) → EachMono (IsAffine 2) (shifted k f)
unfolding shifted
shifted_affine k [] = tt
shifted_affine k (t ∷ f) = (affine_mono _ _, shifted_affine k f)

-- the difference of two polynomials with one sum
equal_sums : (ψ : ℕ → ℕ) (f g : List Term) → sum_at ψ f % 7 ≡ sum_at ψ g % 7 → sum_at ψ (sub 7 f g) % 7 ≡ 0
equal_sums ψ f g e =
    let s : sum_at ψ g + 6 * sum_at ψ g ≡ 7 * sum_at ψ g + 0 = omega arith in
    weigh-normal 7 (on (weights ψ)) _
    ∙ ap (λ (n : ℕ). n % 7) (weigh-append (on (weights ψ)) f (multiple 7 6 g))
    ∙ mod_plus 7 (sum_at ψ f) (sum_at ψ g) (sum_at ψ (multiple 7 6 g)) (6 * sum_at ψ g) e (weigh-normal 7 (on (weights ψ)) (scaled 6 g) ∙ ap (λ (n : ℕ). n % 7) (weigh-scaled (on (weights ψ)) 6 g))
    ∙ ap (λ (n : ℕ). n % 7) s ∙ mul-add-mod_self_left 7 (sum_at ψ g) 0

module _ (f : Fraction) (h : IsFraction cusp f) (i : Integral cusp f) where
  abbrev b : List Term
  b = normal 7 (shifted f.exponent f.numerator)

  b_poly : IsPoly 7 2 b
  b_poly = poly_normal 7 2 (shifted f.exponent f.numerator) (omega arith) (shifted_affine f.exponent f.numerator)

  left_at : (ψ : ℕ → ℕ) → sum_at ψ (mul 7 f.numerator (denominator_power cusp 1)) % 7 ≡ sum_at (λ v. ψ (v + 4)) f.numerator % 7
  left_at ψ =
      product_at ψ f.numerator (denominator_power cusp 1) h (denominator_poly 1)
      ∙ alike_at (λ v. sum_at (λ k. ψ (v + k)) (denominator_power cusp 1)) (λ v. ψ (v + 4)) f.numerator h (λ v. denominator_at 1 (λ k. ψ (v + k)))

  weight_is : (ψ : ℕ → ℕ) (n : ℕ) → 2 ≤ n → on (weights ψ) (at_weight n) ≡ ψ n
  weight_is ψ n l = let e : 2 * ((n - 3 * (n % 2)) / 2) + 3 * (n % 2) ≡ n = omega arith in ap ψ e

  right_at : (ψ : ℕ → ℕ) → sum_at ψ (mul 7 b (denominator_power cusp f.exponent)) % 7 ≡ sum_at (λ v. ψ (v + 4)) f.numerator % 7
  right_at ψ =
      product_at ψ b (denominator_power cusp f.exponent) b_poly (denominator_poly f.exponent)
      ∙ alike_at (λ v. sum_at (λ k. ψ (v + k)) (denominator_power cusp f.exponent)) (λ v. ψ (v + f.exponent * 4)) b b_poly (λ v. denominator_at f.exponent (λ k. ψ (v + k)))
      ∙ weigh-normal 7 (on (weights (λ v. ψ (v + f.exponent * 4)))) (shifted f.exponent f.numerator)
      ∙ ap (λ (n : ℕ). n % 7) (weigh-shifted f.exponent (on (weights (λ v. ψ (v + f.exponent * 4)))) f.numerator)
      ∙ order_same (f.exponent * 4) f.numerator h (integral_order f h i) (λ w. on (weights (λ v. ψ (v + f.exponent * 4))) (at_weight ((w + 4) - f.exponent * 4))) (λ w. ψ (w + 4))
      (λ w l.
      let e : ((w + 4) - f.exponent * 4) + f.exponent * 4 ≡ w + 4 = omega arith in
      ap (λ (n : ℕ). n % 7) (weight_is (λ v. ψ (v + f.exponent * 4)) ((w + 4) - f.exponent * 4) (omega arith) ∙ ap ψ e))

  pub over_one : EqualsOver cusp 1 f
  over_one = (
    b,
    b_poly,
    member_of_tests (sub 7 (mul 7 f.numerator (denominator_power cusp 1)) (mul 7 b (denominator_power cusp f.exponent)))
        (poly_sub 7 2 (mul 7 f.numerator (denominator_power cusp 1)) (mul 7 b (denominator_power cusp f.exponent)) (omega arith)
        (poly_mul 7 2 f.numerator (denominator_power cusp 1) (omega arith) h (denominator_poly 1)) (poly_mul 7 2 b (denominator_power cusp f.exponent) (omega arith) b_poly (denominator_poly f.exponent)))
        (λ ψ. equal_sums ψ (mul 7 f.numerator (denominator_power cusp 1)) (mul 7 b (denominator_power cusp f.exponent)) (left_at ψ ∙ sym (right_at ψ))),
  )

pub origin_list : All (ArePolys cusp) (origin ∷ [])
origin_list = All-cons (ArePolys cusp) origin [] origin_polys (All-nil (ArePolys cusp))

-- x y over d is local at the list of the origin
pub product_at_origin : LocalAt cusp (origin ∷ []) (over (term_of 1 1 1 ∷ []) 1)
product_at_origin = local_at cusp cusp_is_finite (over (term_of 1 1 1 ∷ []) 1) origin product_is_local (origin ∷ []) origin_list (contains_head origin [])

pub cusp_needs_one_power : CuspNeedsOnePower
cusp_needs_one_power = (
  (λ f h l. over_one f h l.integral),
  λ s. product_is_not_whole (s (over (term_of 1 1 1 ∷ []) 1) (poly_of_term 1 1 1 (omega arith) (omega arith)) product_at_origin),
)
