-- The closure of the cusp at the origin: the power 1 and the numerators y^2, x y, x^2.
use Rattle.std.proofs.Common.{◌≡◌, ℕ, ◌+◌, ◌-◌, ◌*◌, ◌%◌, ◌/◌, zero, suc, List, [], ◌∷◌, ◌++◌, refl, sym, ap, ◌∙◌, subst, arith}
use Rattle.std.specs.List.{All}
use Rattle.std.proofs.lemmas.List.Elements.{All-nil, All-cons, All-head, All-tail}
use Rattle.monomials.specs.Mono.{Monomial, times}
use Rattle.polys.specs.declared.term.Term.{Term}
use Rattle.polys.specs.Terms.{IsAffine, IsPoly, add, mul, normal, one}
use Rattle.polys.specs.Ideal.{InIdeal, combination}
use Rattle.polys.proofs.Weights.{weigh, Alike, weigh-append, normal_ext, mod_plus}
use Rattle.polys.proofs.Sums.{mul_normal_left, add_normal_left, add_normal_right}
use Rattle.polys.proofs.Units.{canonical_same}
use Rattle.polys.proofs.Affine.{poly_none, poly_one, poly_add, poly_mul, poly_normal}
use Rattle.ideal_laws.proofs.Ideals.{in_none, in_add, in_mul, in_larger}
use Rattle.curve_model.specs.Fraction.{IsFraction, InA, over, sum_of}
use Rattle.curve_model.specs.Local.{LocalAt}
use Rattle.curve_model.specs.Closure.{Suffices}
use Rattle.curve_model.specs.Rings.{IsFractionRing}
use Rattle.curve_model.specs.Examples.{term_of, cusp, origin, conductor, CuspHasClosure}
use Rattle.curve_model.proofs.Cusp.{poly_of_term}
use Rattle.curve_model.proofs.TwoVariables.{mono_of, affine_mono}
use Rattle.curve_model.proofs.Tests.{on}
use Rattle.curve_model.proofs.CuspWeights.{curve, weights, at_weight, standard, weigh-standard, CuspSplit, cusp_split}
use Rattle.curve_laws.proofs.LocalRingLaws.{local_ring_law}
use Rattle.chain_laws.proofs.OneExponent.{eq_refl, one_sum}
use Rattle.curve_laws.proofs.PointSetLaws.{whole_at}
use Rattle.curve_examples.proofs.CuspDimension.{cusp_is_finite}
use Rattle.curve_examples.proofs.CuspOrders.{sum_at, HasOrder, order_same, integral_order}
use Rattle.curve_examples.proofs.CuspNumerators.{conductor_polys, holds_xy, holds_x2, conductor_is_reduced}
use Rattle.curve_examples.proofs.CuspPower.{origin_list, product_at_origin, cusp_needs_one_power}

-- ---- what has no weight below 4 is in the ideal of y^2, x y, x^2

abbrev single : ℕ → Monomial → List Term
single c m = record { coeff = c; mono = m } ∷ []

by_factor : (c : ℕ) (m v w : Monomial) → IsAffine 2 m → times m v ≡ w → InIdeal 7 2 conductor (single 1 v) → InIdeal 7 2 conductor (normal 7 (single c w))
by_factor c m v w a e i =
    subst (InIdeal 7 2 conductor) (mul_normal_left 7 (single c m) (single 1 v) ∙ (λ k. normal 7 (record { coeff = one_times k; mono = e k } ∷ [])))
    (in_mul 7 2 conductor (normal 7 (single c m)) (single 1 v) (omega arith) (poly_normal 7 2 (single c m) (omega arith) (a, tt)) i)
  where
    one_times : c * 1 ≡ c
    one_times = omega arith

high_term : (c n : ℕ) → InIdeal 7 2 conductor (normal 7 (single c (at_weight (n + 4))))
high_term c n = go (n % 2) refl
  where
    go : (r : ℕ) → n % 2 ≡ r → InIdeal 7 2 conductor (normal 7 (single c (at_weight (n + 4))))
    go zero e =
        let a : n / 2 + 2 ≡ ((n + 4) - 3 * ((n + 4) % 2)) / 2 = omega arith in
        let b : 0 + 0 ≡ (n + 4) % 2 = omega arith in
        by_factor c (mono_of (n / 2) 0) (mono_of 2 0) (at_weight (n + 4)) (affine_mono (n / 2) 0) (λ k. mono_of (a k) (b k)) holds_x2
    go (suc zero) e =
        let a : n / 2 + 1 ≡ ((n + 4) - 3 * ((n + 4) % 2)) / 2 = omega arith in
        let b : 0 + 1 ≡ (n + 4) % 2 = omega arith in
        by_factor c (mono_of (n / 2) 0) (mono_of 1 1) (at_weight (n + 4)) (affine_mono (n / 2) 0) (λ k. mono_of (a k) (b k)) holds_xy
    go (suc (suc r)) e = absurd (omega arith)

-- each term with the monomial of its weight, or of 4 where it is below 4
unfoldable raised : List Term → List Term
raised [] = []
raised (t ∷ f) = record { coeff = t.coeff; mono = at_weight ((on (weights (λ n. n)) t.mono - 4) + 4) } ∷ raised f

weigh-raised : (χ : Monomial → ℕ) (f : List Term) → weigh χ (raised f) ≡ sum_at (λ w. χ (at_weight ((w - 4) + 4))) f
unfolding weigh raised
weigh-raised χ [] = refl
weigh-raised χ (t ∷ f) = ap (λ (n : ℕ). t.coeff * χ (at_weight ((on (weights (λ n. n)) t.mono - 4) + 4)) + n) (weigh-raised χ f)

raised_in : (f : List Term) → InIdeal 7 2 conductor (normal 7 (raised f))
unfolding raised
raised_in [] = in_none 7 2 conductor
raised_in (t ∷ f) =
    let u = single t.coeff (at_weight ((on (weights (λ n. n)) t.mono - 4) + 4)) in
    subst (InIdeal 7 2 conductor) (add_normal_left 7 u (normal 7 (raised f)) ∙ add_normal_right 7 u (raised f))
    (in_add 7 2 conductor (normal 7 u) (normal 7 (raised f)) (omega arith) (high_term t.coeff (on (weights (λ n. n)) t.mono - 4)) (raised_in f))

-- x^3 - y^2 is x x^2 - y^2
curve_in : InIdeal 7 2 conductor curve
curve_in = record {
  factors = (term_of 6 0 0 ∷ []) ∷ [] ∷ (term_of 1 1 0 ∷ []) ∷ [];
  polys = All-cons (IsPoly 7 2) (term_of 6 0 0 ∷ []) ([] ∷ (term_of 1 1 0 ∷ []) ∷ []) (poly_of_term 6 0 0 (omega arith) (omega arith))
      (All-cons (IsPoly 7 2) [] ((term_of 1 1 0 ∷ []) ∷ []) (poly_none 7 2) (All-cons (IsPoly 7 2) (term_of 1 1 0 ∷ []) [] (poly_of_term 1 1 0 (omega arith) (omega arith)) (All-nil (IsPoly 7 2))));
  as_many = refl;
  combined = refl;
}

in_of_order : (f : List Term) → IsPoly 7 2 f → HasOrder 4 f → InIdeal 7 2 conductor f
in_of_order f h o = subst (InIdeal 7 2 conductor) (sym equal)
    (in_add 7 2 conductor s.member (normal 7 (raised f)) (omega arith) (in_larger 7 2 cusp.ideal conductor s.member (omega arith) (All-cons (InIdeal 7 2 conductor) curve [] curve_in (All-nil (InIdeal 7 2 conductor))) s.holds) (raised_in f))
  where
    s : CuspSplit f
    s = cusp_split f h.affine

    alike : Alike 7 f (s.member ++ raised f)
    alike χ =
        s.alike χ
        ∙ ap (λ (n : ℕ). n % 7) (weigh-append χ s.member (standard f))
        ∙ mod_plus 7 (weigh χ s.member) (weigh χ s.member) (weigh χ (standard f)) (weigh χ (raised f)) refl
        (ap (λ (n : ℕ). n % 7) (weigh-standard χ f)
        ∙ order_same 4 f h o (λ k. χ (at_weight k)) (λ w. χ (at_weight ((w - 4) + 4))) (λ k l. let e : k ≡ (k - 4) + 4 = omega arith in ap (λ n. χ (at_weight n) % 7) e)
        ∙ ap (λ (n : ℕ). n % 7) (sym (weigh-raised χ f)))
        ∙ ap (λ (n : ℕ). n % 7) (sym (weigh-append χ s.member (raised f)))

    equal : f ≡ add 7 s.member (normal 7 (raised f))
    equal = sym (canonical_same 7 f h.canonical) ∙ normal_ext 7 f (s.member ++ raised f) alike ∙ sym (add_normal_right 7 s.member (raised f))

-- ---- and these numerators over d are local

abbrev Good : List Term → Type 0
Good b = LocalAt cusp (origin ∷ []) (over b 1)

pub ring : IsFractionRing cusp (LocalAt cusp (origin ∷ []))
ring = local_ring_law cusp cusp_is_finite (origin ∷ []) origin_list

good_whole : (b : List Term) → IsPoly 7 2 b → InA cusp (over b 1) → Good b
good_whole b h i = whole_at cusp cusp_is_finite (origin ∷ []) origin_list (over b 1) h i

good_none : Good []
good_none = good_whole [] (poly_none 7 2) ([], poly_none 7 2, in_none 7 2 cusp.ideal)

-- y^2 over d is x, and x^2 over d is 1
pub y2_whole : InA cusp (over (term_of 1 0 2 ∷ []) 1)
y2_whole = (
  term_of 1 1 0 ∷ [],
  poly_of_term 1 1 0 (omega arith) (omega arith),
  record {
    factors = (term_of 6 0 0 ∷ []) ∷ [];
    polys = All-cons (IsPoly 7 2) (term_of 6 0 0 ∷ []) [] (poly_of_term 6 0 0 (omega arith) (omega arith)) (All-nil (IsPoly 7 2));
    as_many = refl;
    combined = refl;
  },
)

pub x2_whole : InA cusp (over (term_of 1 2 0 ∷ []) 1)
x2_whole = (one, poly_one 7 2 (omega arith), in_none 7 2 cusp.ideal)

good_y2 : Good (term_of 1 0 2 ∷ [])
good_y2 = good_whole (term_of 1 0 2 ∷ []) (poly_of_term 1 0 2 (omega arith) (omega arith)) y2_whole

good_x2 : Good (term_of 1 2 0 ∷ [])
good_x2 = good_whole (term_of 1 2 0 ∷ []) (poly_of_term 1 2 0 (omega arith) (omega arith)) x2_whole

good_add : (b c : List Term) → IsPoly 7 2 b → IsPoly 7 2 c → Good b → Good c → Good (add 7 b c)
good_add b c hb hc g k =
    let hs = poly_add 7 2 b c (omega arith) hb hc in
    ring.respects (sum_of cusp (over b 1) (over c 1)) (over (add 7 b c) 1) (sum_is_poly b c hb hc) hs (one_sum cusp cusp_is_finite 1 b c hb hc) (ring.sum (over b 1) (over c 1) hb hc g k)
  where
    sum_is_poly : (b c : List Term) → IsPoly 7 2 b → IsPoly 7 2 c → IsFraction cusp (sum_of cusp (over b 1) (over c 1))
    sum_is_poly b c hb hc =
        poly_add 7 2 (mul 7 b (term_of 1 2 0 ∷ [])) (mul 7 c (term_of 1 2 0 ∷ [])) (omega arith)
        (poly_mul 7 2 b (term_of 1 2 0 ∷ []) (omega arith) hb (poly_of_term 1 2 0 (omega arith) (omega arith))) (poly_mul 7 2 c (term_of 1 2 0 ∷ []) (omega arith) hc (poly_of_term 1 2 0 (omega arith) (omega arith)))

good_mul : (q b : List Term) → IsPoly 7 2 q → IsPoly 7 2 b → Good b → Good (mul 7 q b)
good_mul q b hq hb g = ring.product (over q 0) (over b 1) hq hb (whole_at cusp cusp_is_finite (origin ∷ []) origin_list (over q 0) hq (q, hq, eq_refl cusp cusp_is_finite (over q 0) hq)) g

combination_poly : (qs gs : List (List Term)) → All (IsPoly 7 2) qs → All (IsPoly 7 2) gs → IsPoly 7 2 (combination 7 qs gs)
combination_poly [] gs a b = poly_none 7 2
combination_poly (q ∷ qs) [] a b = poly_none 7 2
combination_poly (q ∷ qs) (g ∷ gs) a b =
    poly_add 7 2 (mul 7 q g) (combination 7 qs gs) (omega arith) (poly_mul 7 2 q g (omega arith) (All-head (IsPoly 7 2) q qs a) (All-head (IsPoly 7 2) g gs b))
    (combination_poly qs gs (All-tail (IsPoly 7 2) q qs a) (All-tail (IsPoly 7 2) g gs b))

good_combination : (qs gs : List (List Term)) → All (IsPoly 7 2) qs → All (IsPoly 7 2) gs → All Good gs → Good (combination 7 qs gs)
good_combination [] gs a b h = good_none
good_combination (q ∷ qs) [] a b h = good_none
good_combination (q ∷ qs) (g ∷ gs) a b h =
    good_add (mul 7 q g) (combination 7 qs gs) (poly_mul 7 2 q g (omega arith) (All-head (IsPoly 7 2) q qs a) (All-head (IsPoly 7 2) g gs b))
    (combination_poly qs gs (All-tail (IsPoly 7 2) q qs a) (All-tail (IsPoly 7 2) g gs b))
    (good_mul q g (All-head (IsPoly 7 2) q qs a) (All-head (IsPoly 7 2) g gs b) (All-head Good g gs h))
    (good_combination qs gs (All-tail (IsPoly 7 2) q qs a) (All-tail (IsPoly 7 2) g gs b) (All-tail Good g gs h))

all_good : All Good conductor
all_good =
    All-cons Good (term_of 1 0 2 ∷ []) ((term_of 1 1 1 ∷ []) ∷ (term_of 1 2 0 ∷ []) ∷ []) good_y2
    (All-cons Good (term_of 1 1 1 ∷ []) ((term_of 1 2 0 ∷ []) ∷ []) product_at_origin (All-cons Good (term_of 1 2 0 ∷ []) [] good_x2 (All-nil Good)))

pub cusp_has_closure : CuspHasClosure
cusp_has_closure = record {
  suffices = cusp_needs_one_power.0;
  least = λ L l s. cusp_needs_one_power.1 (subst (λ K. Suffices cusp (origin ∷ []) K) (let z : L ≡ 0 = omega arith in z) s);
  basis = record {
    reduced = conductor_is_reduced;
    exact = λ f h. (
      (λ i. subst Good (sym i.combined) (good_combination i.factors conductor i.polys conductor_polys all_good)),
      λ g. in_of_order f h (integral_order (over f 1) h g.integral),
    );
  };
}
