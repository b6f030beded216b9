-- The cusp as a ring of polynomials in t: x is t^2 and y is t^3, so that a polynomial is in I exactly where all its sums of
-- coefficients by weight 2 i + 3 j are 0.
use Rattle.std.proofs.Common.{◌≡◌, ℕ, ◌+◌, ◌-◌, ◌*◌, ◌%◌, ◌/◌, zero, suc, List, [], ◌∷◌, ◌++◌, refl, sym, ap, ◌∙◌, subst, arith}
use Rattle.std.proofs.lemmas.List.Elements.{All-nil, All-cons}
use native.Mathlib.Nat.{mul-add-mod_self_left}
use Rattle.monomials.specs.Mono.{Monomial, times}
use Rattle.polys.specs.declared.term.Term.{Term}
use Rattle.polys.specs.Terms.{EachMono, IsAffine, IsPoly, add, sub, mul, normal, products}
use Rattle.polys.specs.Ideal.{InIdeal}
use Rattle.polys.proofs.Weights.{weigh, Alike, weigh-append, weigh-normal, normal_ext, mod_plus}
use Rattle.polys.proofs.Sums.{weigh-products, mul_normal_left}
use Rattle.polys.proofs.Units.{canonical_same}
use Rattle.polys.proofs.Affine.{poly_normal}
use Rattle.ideal_laws.proofs.Ideals.{in_none, in_add, in_mul, in_head, in_poly}
use Rattle.curve_model.specs.Fraction.{denominator_power}
use Rattle.curve_model.specs.Examples.{term_of, cusp, ProductIsNotWhole, CuspIsRegular}
use Rattle.curve_model.proofs.Cusp.{poly_of_term}
use Rattle.curve_model.proofs.TwoVariables.{mono_of, exponents_of, affine_mono}
use Rattle.curve_model.proofs.Tests.{on, test, Passes, weigh_same, test_less, test_product, test_member}

-- x^3 - y^2
abbrev pub curve : List Term
curve = term_of 1 3 0 ∷ term_of 6 0 2 ∷ []

-- the sum of the coefficients with weights of 2 i + 3 j
abbrev pub weights : (ℕ → ℕ) → ℕ → ℕ → ℕ
weights ψ i j = ψ (2 * i + 3 * j)

seven_times : (n : ℕ) → (1 * n + (6 * n + 0)) % 7 ≡ 0
seven_times n = let e : 1 * n + (6 * n + 0) ≡ 7 * n + 0 = omega arith in ap (λ (k : ℕ). k % 7) e ∙ mul-add-mod_self_left 7 n 0

curve_passes : (ψ : ℕ → ℕ) → Passes (on (weights ψ)) curve
unfolding weigh
curve_passes ψ i j =
    let a : 2 * (i + 3) + 3 * (j + 0) ≡ 2 * (i + 0) + 3 * (j + 2) = omega arith in
    ap (λ k. (1 * ψ k + (6 * ψ (2 * (i + 0) + 3 * (j + 2)) + 0)) % 7) a ∙ seven_times (ψ (2 * (i + 0) + 3 * (j + 2)))

-- members of I have all sums 0
pub tests_of_member : (f : List Term) → InIdeal 7 2 cusp.ideal f → (ψ : ℕ → ℕ) → test (weights ψ) f % 7 ≡ 0
tests_of_member f i ψ = test_member (on (weights ψ)) (curve ∷ []) f (All-cons (Passes (on (weights ψ))) curve [] (curve_passes ψ) (All-nil (Passes (on (weights ψ))))) i

-- ---- conversely

pub curve_poly : IsPoly 7 2 curve
curve_poly = record {
  canonical = (omega arith, omega arith, refl, (omega arith, omega arith, tt, tt));
  affine = ((poly_of_term 1 3 0 (omega arith) (omega arith)).affine.0, ((poly_of_term 6 0 2 (omega arith) (omega arith)).affine.0, tt));
}

holds_curve : InIdeal 7 2 cusp.ideal curve
holds_curve = in_head 7 2 curve [] (omega arith) curve_poly

-- the monomial x^i or x^i y of this weight
abbrev pub at_weight : ℕ → Monomial
at_weight k = mono_of ((k - 3 * (k % 2)) / 2) (k % 2)

even_weight : (i : ℕ) → mono_of i 0 ≡ at_weight (2 * i + 3 * 0)
even_weight i =
    let a : i ≡ ((2 * i + 3 * 0) - 3 * ((2 * i + 3 * 0) % 2)) / 2 = omega arith in
    let b : 0 ≡ (2 * i + 3 * 0) % 2 = omega arith in
    λ k. mono_of (a k) (b k)

odd_weight : (i : ℕ) → mono_of i 1 ≡ at_weight (2 * i + 3 * 1)
odd_weight i =
    let a : i ≡ ((2 * i + 3 * 1) - 3 * ((2 * i + 3 * 1) % 2)) / 2 = omega arith in
    let b : 1 ≡ (2 * i + 3 * 1) % 2 = omega arith in
    λ k. mono_of (a k) (b k)

abbrev single : ℕ → Monomial → List Term
single c m = record { coeff = c; mono = m } ∷ []

-- c x^i y^j is a member of I and c times the monomial of its weight
record TermSplit (c i j : ℕ) : Type 0 where
  member : List Term
  holds : InIdeal 7 2 cusp.ideal member
  alike : Alike 7 (single c (mono_of i j)) (member ++ single c (at_weight (2 * i + 3 * j)))

term_split : (c i j : ℕ) → TermSplit c i j
unfolding weigh
term_split c i zero = record { member = []; holds = in_none 7 2 cusp.ideal; alike = λ χ. ap (λ m. (c * χ m + 0) % 7) (even_weight i) }
term_split c i (suc zero) = record { member = []; holds = in_none 7 2 cusp.ideal; alike = λ χ. ap (λ m. (c * χ m + 0) % 7) (odd_weight i) }
term_split c i (suc (suc j)) = step (term_split c (i + 3) j)
  where
    part : List Term
    part = mul 7 (normal 7 (single (6 * c) (mono_of i j))) curve

    part_holds : InIdeal 7 2 cusp.ideal part
    part_holds = in_mul 7 2 cusp.ideal (normal 7 (single (6 * c) (mono_of i j))) curve (omega arith) (poly_normal 7 2 (single (6 * c) (mono_of i j)) (omega arith) (affine_mono i j, tt)) holds_curve

    part_weighs : (χ : Monomial → ℕ) → weigh χ part % 7 ≡ (6 * c * χ (mono_of (i + 3) j) + c * χ (mono_of i (suc (suc j)))) % 7
    part_weighs χ =
        let a : j + 0 ≡ j = omega arith in
        let b : i + 0 ≡ i = omega arith in
        let d : j + 2 ≡ suc (suc j) = omega arith in
        ap (λ w. weigh χ w % 7) (mul_normal_left 7 (single (6 * c) (mono_of i j)) curve)
        ∙ weigh-normal 7 χ (products (single (6 * c) (mono_of i j)) curve)
        ∙ (λ k. (6 * c * 1 * χ (mono_of (i + 3) (a k)) + (6 * c * 6 * χ (mono_of (b k) (d k)) + 0)) % 7)
        ∙ ap (λ (n : ℕ). n % 7) (turn c (χ (mono_of (i + 3) j)) (χ (mono_of i (suc (suc j)))))
        ∙ mul-add-mod_self_left 7 (5 * (c * χ (mono_of i (suc (suc j))))) (6 * c * χ (mono_of (i + 3) j) + c * χ (mono_of i (suc (suc j))))
      where
        turn : (c x y : ℕ) → 6 * c * 1 * x + (6 * c * 6 * y + 0) ≡ 7 * (5 * (c * y)) + (6 * c * x + c * y)
        turn c x y = omega arith

    step : TermSplit c (i + 3) j → TermSplit c i (suc (suc j))
    step s = record {
      member = add 7 part s.member;
      holds = in_add 7 2 cusp.ideal part s.member (omega arith) part_holds s.holds;
      alike = λ χ. sym (whole χ);
    }
      where
        same : 2 * (i + 3) + 3 * j ≡ 2 * i + 3 * suc (suc j)
        same = omega arith

        rest : (χ : Monomial → ℕ) → ℕ
        rest χ = c * χ (at_weight (2 * i + 3 * suc (suc j))) + 0

        turn : (x y z w : ℕ) → (x + y) + (z + w) ≡ x + y + z + w
        turn x y z w = omega arith

        last : (c x y : ℕ) → (6 * c * x + c * y) + (c * x + 0) ≡ 7 * (c * x) + (c * y + 0)
        last c x y = omega arith

        tail : (χ : Monomial → ℕ) → (weigh χ s.member + (c * χ (at_weight (2 * i + 3 * suc (suc j))) + 0)) % 7 ≡ (c * χ (mono_of (i + 3) j) + 0) % 7
        tail χ =
            ap (λ k. (weigh χ s.member + (c * χ (at_weight k) + 0)) % 7) (sym same)
            ∙ ap (λ (n : ℕ). n % 7) (sym (weigh-append χ s.member (single c (at_weight (2 * (i + 3) + 3 * j)))))
            ∙ sym (s.alike χ)

        whole : (χ : Monomial → ℕ) → weigh χ (add 7 part s.member ++ single c (at_weight (2 * i + 3 * suc (suc j)))) % 7 ≡ (c * χ (mono_of i (suc (suc j))) + 0) % 7
        whole χ =
            let r : ℕ = c * χ (at_weight (2 * i + 3 * suc (suc j))) + 0 in
            let assoc : (weigh χ part + weigh χ s.member) + r ≡ weigh χ part + (weigh χ s.member + r) = omega arith in
            ap (λ (n : ℕ). n % 7) (weigh-append χ (add 7 part s.member) (single c (at_weight (2 * i + 3 * suc (suc j)))))
            ∙ mod_plus 7 (weigh χ (add 7 part s.member)) (weigh χ part + weigh χ s.member) r r (weigh-normal 7 χ (part ++ s.member) ∙ ap (λ (n : ℕ). n % 7) (weigh-append χ part s.member)) refl
            ∙ ap (λ (n : ℕ). n % 7) assoc
            ∙ mod_plus 7 (weigh χ part) (6 * c * χ (mono_of (i + 3) j) + c * χ (mono_of i (suc (suc j)))) (weigh χ s.member + r) (c * χ (mono_of (i + 3) j) + 0) (part_weighs χ) (tail χ)
            ∙ ap (λ (n : ℕ). n % 7) (last c (χ (mono_of (i + 3) j)) (χ (mono_of i (suc (suc j)))))
            ∙ mul-add-mod_self_left 7 (c * χ (mono_of (i + 3) j)) (c * χ (mono_of i (suc (suc j))) + 0)

-- each term with the monomial of its weight
abbrev weight_of : Monomial → ℕ
weight_of m = on (weights (λ k. k)) m

unfoldable pub standard : List Term → List Term
standard [] = []
standard (t ∷ f) = record { coeff = t.coeff; mono = at_weight (weight_of t.mono) } ∷ standard f

pub weigh-standard : (χ : Monomial → ℕ) (f : List Term) → weigh χ (standard f) ≡ test (weights (λ k. χ (at_weight k))) f
unfolding weigh standard
weigh-standard χ [] = refl
weigh-standard χ (t ∷ f) = ap (λ (n : ℕ). t.coeff * χ (at_weight (weight_of t.mono)) + n) (weigh-standard χ f)

-- f is a member of I and terms with the monomials of their weights
pub record CuspSplit (f : List Term) : Type 0 where
  pub member : List Term
  pub holds : InIdeal 7 2 cusp.ideal member
  pub alike : Alike 7 f (member ++ standard f)

pub cusp_split : (f : List Term) → EachMono (IsAffine 2) f → CuspSplit f
unfolding weigh standard
cusp_split [] a = record { member = []; holds = in_none 7 2 cusp.ideal; alike = λ χ. refl }
cusp_split (t ∷ f) a = go (exponents_of t.mono a.0) (cusp_split f a.1)
  where
    go : (i : ℕ) × (j : ℕ) × (t.mono ≡ mono_of i j) → CuspSplit f → CuspSplit (t ∷ f)
    go (i, j, e) s = record {
      member = add 7 (first).member s.member;
      holds = in_add 7 2 cusp.ideal (first).member s.member (omega arith) (first).holds s.holds;
      alike = λ χ.
          ap (λ m. (t.coeff * χ m + weigh χ f) % 7) e
          ∙ mod_plus 7 (t.coeff * χ (mono_of i j)) (weigh χ (first).member + t.coeff * χ (at_weight (2 * i + 3 * j))) (weigh χ f) (weigh χ s.member + weigh χ (standard f))
          (ap (λ (n : ℕ). n % 7) (plain (t.coeff * χ (mono_of i j))) ∙ (first).alike χ ∙ ap (λ (n : ℕ). n % 7) (weigh-append χ (first).member (single t.coeff (at_weight (2 * i + 3 * j))) ∙ ap (λ (n : ℕ). weigh χ (first).member + n) (sym (plain (t.coeff * χ (at_weight (2 * i + 3 * j)))))))
          (s.alike χ ∙ ap (λ (n : ℕ). n % 7) (weigh-append χ s.member (standard f)))
          ∙ ap (λ (n : ℕ). n % 7) (turn (weigh χ (first).member) (t.coeff * χ (at_weight (2 * i + 3 * j))) (weigh χ s.member) (weigh χ (standard f)))
          ∙ mod_plus 7 (weigh χ (first).member + weigh χ s.member) (weigh χ (add 7 (first).member s.member)) (t.coeff * χ (at_weight (2 * i + 3 * j)) + weigh χ (standard f)) (weigh χ (standard (t ∷ f)))
          (ap (λ (n : ℕ). n % 7) (sym (weigh-append χ (first).member s.member)) ∙ sym (weigh-normal 7 χ ((first).member ++ s.member)))
          (ap (λ m. (t.coeff * χ (at_weight (weight_of m)) + weigh χ (standard f)) % 7) (sym e))
          ∙ ap (λ (n : ℕ). n % 7) (sym (weigh-append χ (add 7 (first).member s.member) (standard (t ∷ f))));
    }
      where
        first : TermSplit t.coeff i j
        first = term_split t.coeff i j

        plain : (n : ℕ) → n ≡ n + 0
        plain n = omega arith

        turn : (a b c d : ℕ) → (a + b) + (c + d) ≡ (a + c) + (b + d)
        turn a b c d = omega arith

-- a polynomial with all sums 0 is a member of I
pub member_of_tests : (f : List Term) → IsPoly 7 2 f → ((ψ : ℕ → ℕ) → test (weights ψ) f % 7 ≡ 0) → InIdeal 7 2 cusp.ideal f
member_of_tests f h z = subst (InIdeal 7 2 cusp.ideal) (sym same) s.holds
  where
    s : CuspSplit f
    s = cusp_split f h.affine

    alike : Alike 7 f s.member
    alike χ =
        let e : weigh χ s.member + 0 ≡ weigh χ s.member = omega arith in
        s.alike χ
        ∙ ap (λ (n : ℕ). n % 7) (weigh-append χ s.member (standard f))
        ∙ mod_plus 7 (weigh χ s.member) (weigh χ s.member) (weigh χ (standard f)) 0 refl (ap (λ (n : ℕ). n % 7) (weigh-standard χ f) ∙ z (λ k. χ (at_weight k)))
        ∙ ap (λ (n : ℕ). n % 7) e

    same : f ≡ s.member
    same =
        sym (canonical_same 7 f h.canonical)
        ∙ normal_ext 7 f s.member alike
        ∙ canonical_same 7 s.member (in_poly 7 2 cusp.ideal s.member (omega arith) (All-cons (IsPoly 7 2) curve [] curve_poly (All-nil (IsPoly 7 2))) s.holds).canonical

-- ---- d is regular

pub cusp_is_regular : CuspIsRegular
unfolding weigh
cusp_is_regular f h i = member_of_tests f h (λ ψ. lowered ψ)
  where
    lowered : (ψ : ℕ → ℕ) → test (weights ψ) f % 7 ≡ 0
    lowered ψ =
        let one_times : (n : ℕ) → 1 * n + 0 ≡ n = λ n. omega arith in
        ap (λ (n : ℕ). n % 7)
        (weigh_same (on (weights ψ)) (λ m. on (weights (λ k. ψ (k - 4))) (times (mono_of 2 0) m)) f h.affine (λ a b. let e : 2 * a + 3 * b ≡ 2 * (2 + a) + 3 * (0 + b) - 4 = omega arith in ap ψ e)
        ∙ sym (one_times (weigh (λ m. on (weights (λ k. ψ (k - 4))) (times (mono_of 2 0) m)) f))
        ∙ sym (weigh-products (on (weights (λ k. ψ (k - 4)))) (term_of 1 2 0 ∷ []) f))
        ∙ sym (weigh-normal 7 (on (weights (λ k. ψ (k - 4)))) (products (term_of 1 2 0 ∷ []) f))
        ∙ tests_of_member (mul 7 (term_of 1 2 0 ∷ []) f) i (λ k. ψ (k - 4))

-- ---- x y over d is not in A

-- 1 at 5, and 0 elsewhere
unfoldable pub at_five : ℕ → ℕ
at_five (suc (suc (suc (suc (suc zero))))) = 1
at_five n = 0

denominator_passes : Passes (on (weights at_five)) (term_of 1 2 0 ∷ [])
unfolding weigh at_five
denominator_passes i j = go (2 * i + 3 * j) refl
  where
    go : (k : ℕ) → 2 * i + 3 * j ≡ k → (1 * at_five (2 * (i + 2) + 3 * (j + 0)) + 0) % 7 ≡ 0
    go zero e = let q : 2 * (i + 2) + 3 * (j + 0) ≡ 4 = omega arith in ap (λ n. (1 * at_five n + 0) % 7) q
    go (suc zero) e = absurd (omega arith)
    go (suc (suc k)) e = let q : 2 * (i + 2) + 3 * (j + 0) ≡ suc (suc (suc (suc (suc (suc k))))) = omega arith in ap (λ n. (1 * at_five n + 0) % 7) q

never : (n : ℕ) → n ≡ 1 → n ≡ 0 → ⊥
never n a b = absurd (omega arith)

pub product_is_not_whole : ProductIsNotWhole
unfolding weigh at_five
product_is_not_whole w =
    let a = mul 7 (term_of 1 1 1 ∷ []) (denominator_power cusp 0) in
    let b = mul 7 w.0 (denominator_power cusp 1) in
    never (test (weights at_five) (sub 7 a b) % 7)
    (test_less (on (weights at_five)) a b (test_product (on (weights at_five)) w.0 (denominator_power cusp 1) w.1.affine denominator_passes))
    (tests_of_member (sub 7 a b) w.2 at_five)
