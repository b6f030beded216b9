-- Delta of the cusp at the origin is 1: its closure there is a ring of local fractions that cannot be enlarged, with the basis
-- x y over d modulo A.
use Rattle.std.proofs.Common.{◌≡◌, ℕ, ◌+◌, ◌*◌, ◌%◌, ◌<◌, ◌≤◌, zero, suc, List, [], ◌∷◌, ◌++◌, length, refl, sym, ap, ◌∙◌, subst, arith}
use Rattle.std.specs.List.{All}
use Rattle.std.proofs.lemmas.List.Elements.{All-nil, All-cons, All-head, All-tail}
use native.Mathlib.Nat.{mul-add-mod_self_left}
use Rattle.polys.specs.declared.term.Term.{Term}
use Rattle.polys.specs.Terms.{sub, multiple, normal}
use Rattle.polys.specs.Ideal.{InIdeal, IsSpanned, number_combination}
use Rattle.polys.proofs.Weights.{weigh, weigh-append, weigh-normal, mod_plus, mod_times}
use Rattle.polys.proofs.Sums.{normal_normal}
use Rattle.ideal_laws.proofs.Multiples.{weigh-multiple}
use Rattle.ideal_laws.proofs.Ideals.{in_poly}
use Rattle.ideal_laws.proofs.Unique.{contains_head}
use Rattle.curve_model.specs.Fraction.{Fraction, IsFraction, over}
use Rattle.curve_model.specs.Local.{Local, LocalAt}
use Rattle.curve_model.specs.Closure.{InModule}
use Rattle.curve_model.specs.Enlarging.{IsLocalRing}
use Rattle.curve_model.specs.OneExponent.{IsNumeratorBasis}
use Rattle.curve_model.specs.Examples.{term_of, cusp, origin, conductor, CuspClosureIsFull, CuspHasDeltaOne}
use Rattle.curve_model.proofs.Cusp.{poly_of_term}
use Rattle.curve_model.proofs.CuspLocal.{product_is_local}
use Rattle.curve_model.proofs.Origin.{is_zero}
use Rattle.curve_model.proofs.OriginPoint.{origin_is_point}
use Rattle.curve_model.proofs.Tests.{on, test_member}
use Rattle.curve_laws.proofs.ClosingLaws.{exact_law}
use Rattle.chain_laws.proofs.ChainLaws.{transfer}
use Rattle.curve_laws.proofs.CountingLaws.{counts_law}
use Rattle.curve_laws.proofs.EnlargingLaws.{enlargement_law}
use Rattle.chain_laws.proofs.OneExponent.{basis_law}
use Rattle.curve_laws.proofs.PointSetLaws.{local_at, whole_at}
use Rattle.chain_laws.proofs.StepLaws.{whole_local}
use Rattle.curve_examples.proofs.CuspDimension.{cusp_is_finite, gs, four, spanned, weigh-numbers, linear, is_one, both, IsLinear, zero_is_low, one_is_low, passes}
use Rattle.curve_examples.proofs.CuspNumerators.{conductor_polys, holds_xy, low_of_member}
use Rattle.curve_examples.proofs.CuspPower.{origin_list}
use Rattle.curve_examples.proofs.CuspClosure.{ring, y2_whole, x2_whole, cusp_has_closure}

exact : (f : Fraction) → IsFraction cusp f → (InModule cusp 1 conductor f → LocalAt cusp (origin ∷ []) f) × (LocalAt cusp (origin ∷ []) f → InModule cusp 1 conductor f)
exact f h = let e = exact_law cusp cusp_is_finite (origin ∷ []) origin_list 1 conductor cusp_has_closure f h in (e.0, e.1)

closure_ring : IsLocalRing cusp origin 1 conductor
closure_ring = record {
  ring = transfer cusp cusp_is_finite (LocalAt cusp (origin ∷ [])) (InModule cusp 1 conductor) (λ f h. ((exact f h).1, (exact f h).0)) ring;
  holds = λ f h i. (exact f h).1 (whole_at cusp cusp_is_finite (origin ∷ []) origin_list f h i);
  local =
      All-cons (λ b. Local cusp origin (over b 1)) (term_of 1 0 2 ∷ []) ((term_of 1 1 1 ∷ []) ∷ (term_of 1 2 0 ∷ []) ∷ []) (whole_local cusp cusp_is_finite origin origin_is_point (over (term_of 1 0 2 ∷ []) 1) (poly_of_term 1 0 2 (omega arith) (omega arith)) y2_whole)
      (All-cons (λ b. Local cusp origin (over b 1)) (term_of 1 1 1 ∷ []) ((term_of 1 2 0 ∷ []) ∷ []) product_is_local
      (All-cons (λ b. Local cusp origin (over b 1)) (term_of 1 2 0 ∷ []) [] (whole_local cusp cusp_is_finite origin origin_is_point (over (term_of 1 2 0 ∷ []) 1) (poly_of_term 1 2 0 (omega arith) (omega arith)) x2_whole) (All-nil (λ b. Local cusp origin (over b 1)))));
}

pub closure_is_full : CuspClosureIsFull
closure_is_full h hh keep =
    let l : Local cusp origin h = (enlargement_law cusp cusp_is_finite origin origin_is_point 1 conductor conductor_polys closure_ring).local h hh keep in
    (exact h hh).1 (local_at cusp cusp_is_finite h origin l (origin ∷ []) origin_list (contains_head origin []))

-- ---- x y is a basis of the numerators modulo I and d

abbrev product : List (List Term)
product = (term_of 1 1 1 ∷ []) ∷ []

independent : (cs : List ℕ) → All (λ c. c < 7) cs → length cs ≡ 1 → InIdeal 7 2 gs (number_combination 7 cs product) → All (λ c. c ≡ 0) cs
unfolding weigh is_one is_zero
independent [] h l i = absurd (omega arith)
independent (c ∷ e ∷ cs) h l i = absurd (omega arith)
independent (c ∷ []) h l i =
    let low = All-head (λ n. n < 7) c [] h in
    let z : (c * 1 + 0) % 7 ≡ 0 = sym (weigh-numbers (on (both is_one is_one)) (c ∷ []) product) ∙ test_member (on (both is_one is_one)) gs (number_combination 7 (c ∷ []) product) (passes is_one is_one one_is_low one_is_low) i in
    All-cons (λ n. n ≡ 0) c [] (omega arith) (All-nil (λ n. n ≡ 0))

-- six times a number is 0 modulo 7 only where the number is
six : (n : ℕ) → (0 + 6 * n) % 7 ≡ 0 → n % 7 ≡ 0
six n e =
    let a : n + 35 * n ≡ 6 * (0 + 6 * n) = omega arith in
    let b : 7 * (5 * n) + n ≡ n + 35 * n = omega arith in
    sym (mul-add-mod_self_left 7 (5 * n) n) ∙ ap (λ (k : ℕ). k % 7) (b ∙ a) ∙ mod_times 7 6 (0 + 6 * n) 0 e

-- a weight that is 0 from degree 2 on is 0 on a combination that is b modulo I and d
combined_zero : (u v : ℕ → ℕ) → IsLinear u → IsLinear v → ((i j : ℕ) → 2 ≤ i + j → u i * v j ≡ 0) → (b : List Term) → InIdeal 7 2 conductor b
    → (cs : List ℕ) → InIdeal 7 2 gs (sub 7 b (number_combination 7 cs four)) → linear (on (both u v)) cs four % 7 ≡ 0
combined_zero u v hu hv low b i cs k =
    six (linear (on (both u v)) cs four)
    (sym (weigh-normal 7 (on (both u v)) (b ++ multiple 7 6 (number_combination 7 cs four))
    ∙ ap (λ (n : ℕ). n % 7) (weigh-append (on (both u v)) b (multiple 7 6 (number_combination 7 cs four)))
    ∙ mod_plus 7 (weigh (on (both u v)) b) 0 (weigh (on (both u v)) (multiple 7 6 (number_combination 7 cs four))) (6 * linear (on (both u v)) cs four) (low_of_member (on (both u v)) b low i)
    (weigh-multiple 7 6 (on (both u v)) (number_combination 7 cs four) ∙ mod_times 7 6 (weigh (on (both u v)) (number_combination 7 cs four)) (linear (on (both u v)) cs four) (weigh-numbers (on (both u v)) cs four)))
    ∙ test_member (on (both u v)) gs (sub 7 b (number_combination 7 cs four)) (passes u v hu hv) k)

at_one_low : (i j : ℕ) → 2 ≤ i + j → is_zero i * is_zero j ≡ 0
unfolding is_zero
at_one_low zero zero l = absurd (omega arith)
at_one_low zero (suc j) l = refl
at_one_low (suc i) j l = omega arith

at_x_low : (i j : ℕ) → 2 ≤ i + j → is_one i * is_zero j ≡ 0
unfolding is_zero is_one
at_x_low zero j l = omega arith
at_x_low (suc zero) zero l = absurd (omega arith)
at_x_low (suc zero) (suc j) l = refl
at_x_low (suc (suc i)) j l = omega arith

at_y_low : (i j : ℕ) → 2 ≤ i + j → is_zero i * is_one j ≡ 0
unfolding is_zero is_one
at_y_low zero zero l = absurd (omega arith)
at_y_low zero (suc zero) l = absurd (omega arith)
at_y_low zero (suc (suc j)) l = refl
at_y_low (suc i) j l = omega arith

only_last : (e : ℕ) → number_combination 7 (0 ∷ 0 ∷ 0 ∷ e ∷ []) four ≡ number_combination 7 (e ∷ []) product
only_last e =
    let z : List Term = multiple 7 e (term_of 1 1 1 ∷ []) ++ [] in
    ap (normal 7) (ap (normal 7) (normal_normal 7 z)) ∙ ap (normal 7) (normal_normal 7 z) ∙ normal_normal 7 z

spans : (b : List Term) → InIdeal 7 2 conductor b → IsSpanned 7 2 gs product b
unfolding weigh is_one is_zero
spans b i = go s.residues s.below s.as_many s.close
  where
    s : IsSpanned 7 2 gs four b
    s = spanned b (in_poly 7 2 conductor b (omega arith) conductor_polys i)

    go : (cs : List ℕ) → All (λ c. c < 7) cs → length cs ≡ 4 → InIdeal 7 2 gs (sub 7 b (number_combination 7 cs four)) → IsSpanned 7 2 gs product b
    go [] h l k = absurd (omega arith)
    go (a ∷ []) h l k = absurd (omega arith)
    go (a ∷ x ∷ []) h l k = absurd (omega arith)
    go (a ∷ x ∷ y ∷ []) h l k = absurd (omega arith)
    go (a ∷ x ∷ y ∷ e ∷ m ∷ cs) h l k = absurd (omega arith)
    go (a ∷ x ∷ y ∷ e ∷ []) h l k =
        let ha = All-head (λ n. n < 7) a (x ∷ y ∷ e ∷ []) h in
        let t = All-tail (λ n. n < 7) a (x ∷ y ∷ e ∷ []) h in
        let hx = All-head (λ n. n < 7) x (y ∷ e ∷ []) t in
        let t' = All-tail (λ n. n < 7) x (y ∷ e ∷ []) t in
        let hy = All-head (λ n. n < 7) y (e ∷ []) t' in
        let za : (a * 1 + (x * 0 + (y * 0 + (e * 0 + 0)))) % 7 ≡ 0 = combined_zero is_zero is_zero zero_is_low zero_is_low at_one_low b i (a ∷ x ∷ y ∷ e ∷ []) k in
        let zx : (a * 0 + (x * 1 + (y * 0 + (e * 0 + 0)))) % 7 ≡ 0 = combined_zero is_one is_zero one_is_low zero_is_low at_x_low b i (a ∷ x ∷ y ∷ e ∷ []) k in
        let zy : (a * 0 + (x * 0 + (y * 1 + (e * 0 + 0)))) % 7 ≡ 0 = combined_zero is_zero is_one zero_is_low one_is_low at_y_low b i (a ∷ x ∷ y ∷ e ∷ []) k in
        let a0 : a ≡ 0 = omega arith in
        let x0 : x ≡ 0 = omega arith in
        let y0 : y ≡ 0 = omega arith in
        record {
          residues = e ∷ [];
          below = All-tail (λ n. n < 7) y (e ∷ []) t';
          as_many = refl;
          close = subst (λ w. InIdeal 7 2 gs (sub 7 b w)) ((λ r. number_combination 7 (a0 r ∷ x0 r ∷ y0 r ∷ e ∷ []) four) ∙ only_last e) k;
        }

numerators : IsNumeratorBasis cusp 1 conductor product
numerators = record {
  members = All-cons (InIdeal 7 2 conductor) (term_of 1 1 1 ∷ []) [] holds_xy (All-nil (InIdeal 7 2 conductor));
  independent = independent;
  spans = spans;
}

pub cusp_has_delta_one : CuspHasDeltaOne
cusp_has_delta_one = counts_law cusp cusp_is_finite origin origin_is_point 1 conductor conductor_polys closure_ring closure_is_full ((over (term_of 1 1 1 ∷ []) 1) ∷ []) (basis_law cusp cusp_is_finite 1 conductor product conductor_polys numerators)
