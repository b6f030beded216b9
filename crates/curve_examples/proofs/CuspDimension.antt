-- The dimension of the cusp modulo x^2 is 4: 1, x, y and x y are a basis.
use Rattle.std.proofs.Common.{◌≡◌, ℕ, ◌+◌, ◌*◌, ◌%◌, ◌<◌, zero, suc, List, [], ◌∷◌, ◌++◌, length, refl, sym, ap, ◌∙◌, subst, arith}
use Rattle.std.specs.List.{All}
use Rattle.std.proofs.lemmas.List.Elements.{All-nil, All-cons, All-head, All-tail}
use Rattle.std.proofs.lemmas.Nat.{mul-mod_first, mul-mod_second}
use native.Mathlib.Nat.{mod-lt, mul-add-mod_self_left}
use Rattle.monomials.specs.Mono.{Monomial, times}
use Rattle.polys.specs.declared.term.Term.{Term}
use Rattle.polys.specs.Terms.{EachMono, IsAffine, IsPoly, add, sub, mul, multiple, normal, products, scaled, one}
use Rattle.polys.specs.Ideal.{InIdeal, IsSpanned, Spans, number_combination}
use Rattle.polys.proofs.Weights.{weigh, Alike, weigh-append, weigh-normal, normal_ext, mod_plus}
use Rattle.polys.proofs.Sums.{mul_normal_left}
use Rattle.polys.proofs.Units.{canonical_same, weigh-scaled}
use Rattle.polys.proofs.Affine.{poly_normal, poly_one}
use Rattle.ideal_laws.proofs.Ideals.{in_none, in_add, in_mul, in_head, in_poly}
use Rattle.curve_model.specs.Laws.{IsFinite}
use Rattle.curve_model.specs.Examples.{term_of, cusp, CuspHasDimensionFour}
use Rattle.curve_model.proofs.Cusp.{poly_of_term}
use Rattle.curve_model.proofs.Origin.{is_zero}
use Rattle.curve_model.proofs.TwoVariables.{mono_of, exponents_of, affine_mono}
use Rattle.curve_model.proofs.Tests.{on, Passes, test_member}
use Rattle.curve_model.proofs.CuspWeights.{curve, curve_poly, cusp_is_regular}
use Rattle.curve_model.proofs.OriginPoint.{seven_is_prime}
use Rattle.curve_laws.proofs.Coordinates.{counts_dimension_law}

-- the generators of I and d
abbrev pub gs : List (List Term)
gs = (term_of 1 2 0 ∷ []) ∷ curve ∷ []

gs_poly : All (IsPoly 7 2) gs
gs_poly = All-cons (IsPoly 7 2) (term_of 1 2 0 ∷ []) (curve ∷ []) (poly_of_term 1 2 0 (omega arith) (omega arith)) (All-cons (IsPoly 7 2) curve [] curve_poly (All-nil (IsPoly 7 2)))

abbrev single : ℕ → Monomial → List Term
single c m = record { coeff = c; mono = m } ∷ []

holds_x : InIdeal 7 2 gs (single 1 (mono_of 2 0))
holds_x = in_head 7 2 (term_of 1 2 0 ∷ []) (curve ∷ []) (omega arith) (poly_of_term 1 2 0 (omega arith) (omega arith))

-- y^2 = x x^2 - (x^3 - y^2)
holds_y : InIdeal 7 2 gs (single 1 (mono_of 0 2))
holds_y = record {
  factors = (term_of 1 1 0 ∷ []) ∷ (term_of 6 0 0 ∷ []) ∷ [];
  polys = All-cons (IsPoly 7 2) (term_of 1 1 0 ∷ []) ((term_of 6 0 0 ∷ []) ∷ []) (poly_of_term 1 1 0 (omega arith) (omega arith)) (All-cons (IsPoly 7 2) (term_of 6 0 0 ∷ []) [] (poly_of_term 6 0 0 (omega arith) (omega arith)) (All-nil (IsPoly 7 2)));
  as_many = refl;
  combined = refl;
}

-- ---- every polynomial is a member and a sum of these four

abbrev low : ℕ → ℕ → ℕ → ℕ → (Monomial → ℕ) → ℕ
low a b c e χ = a * χ (mono_of 0 0) + b * χ (mono_of 1 0) + c * χ (mono_of 0 1) + e * χ (mono_of 1 1)

record LowSplit (f : List Term) : Type 0 where
  member : List Term
  holds : InIdeal 7 2 gs member
  at_one : ℕ
  at_x : ℕ
  at_y : ℕ
  at_xy : ℕ
  weighs : (χ : Monomial → ℕ) → weigh χ f % 7 ≡ (weigh χ member + low at_one at_x at_y at_xy χ) % 7

-- a multiple of x^2 or y^2 goes to the member
multiple_split : (t : Term) (f : List Term) (m v : Monomial) → times m v ≡ t.mono → IsAffine 2 m → InIdeal 7 2 gs (single 1 v) → LowSplit f → LowSplit (t ∷ f)
unfolding weigh
multiple_split t f m v e h g s = record {
  member = add 7 part s.member;
  holds = in_add 7 2 gs part s.member (omega arith) (in_mul 7 2 gs (normal 7 (single t.coeff m)) (single 1 v) (omega arith) (poly_normal 7 2 (single t.coeff m) (omega arith) (h, tt)) g) s.holds;
  at_one = s.at_one;
  at_x = s.at_x;
  at_y = s.at_y;
  at_xy = s.at_xy;
  weighs = λ χ.
      mod_plus 7 (t.coeff * χ t.mono) (weigh χ part) (weigh χ f) (weigh χ s.member + low s.at_one s.at_x s.at_y s.at_xy χ) (sym (part_weighs χ)) (s.weighs χ)
      ∙ ap (λ (n : ℕ). n % 7) (turn (weigh χ part) (weigh χ s.member) (low s.at_one s.at_x s.at_y s.at_xy χ))
      ∙ mod_plus 7 (weigh χ part + weigh χ s.member) (weigh χ (add 7 part s.member)) (low s.at_one s.at_x s.at_y s.at_xy χ) (low s.at_one s.at_x s.at_y s.at_xy χ)
      (ap (λ (n : ℕ). n % 7) (sym (weigh-append χ part s.member)) ∙ sym (weigh-normal 7 χ (part ++ s.member))) refl;
}
  where
    part : List Term
    part = mul 7 (normal 7 (single t.coeff m)) (single 1 v)

    turn : (a b c : ℕ) → a + (b + c) ≡ (a + b) + c
    turn a b c = omega arith

    plain : (c x : ℕ) → c * 1 * x + 0 ≡ c * x
    plain c x = omega arith

    part_weighs : (χ : Monomial → ℕ) → weigh χ part % 7 ≡ (t.coeff * χ t.mono) % 7
    part_weighs χ =
        ap (λ w. weigh χ w % 7) (mul_normal_left 7 (single t.coeff m) (single 1 v))
        ∙ weigh-normal 7 χ (products (single t.coeff m) (single 1 v))
        ∙ ap (λ (n : ℕ). n % 7) (plain t.coeff (χ (times m v)) ∙ ap (λ w. t.coeff * χ w) e)

-- one of the four goes to its number
low_split : (t : Term) (f : List Term) (m : Monomial) → t.mono ≡ m → (s : LowSplit f) (a b c e : ℕ)
    → ((χ : Monomial → ℕ) → t.coeff * χ m + low s.at_one s.at_x s.at_y s.at_xy χ ≡ low a b c e χ) → LowSplit (t ∷ f)
unfolding weigh
low_split t f m is s a b c e h = record {
  member = s.member;
  holds = s.holds;
  at_one = a;
  at_x = b;
  at_y = c;
  at_xy = e;
  weighs = λ χ.
      mod_plus 7 (t.coeff * χ t.mono) (t.coeff * χ m) (weigh χ f) (weigh χ s.member + low s.at_one s.at_x s.at_y s.at_xy χ) (ap (λ w. (t.coeff * χ w) % 7) is) (s.weighs χ)
      ∙ ap (λ (n : ℕ). n % 7) (turn (t.coeff * χ m) (weigh χ s.member) (low s.at_one s.at_x s.at_y s.at_xy χ) ∙ ap (λ (n : ℕ). weigh χ s.member + n) (h χ));
}
  where
    turn : (a b c : ℕ) → a + (b + c) ≡ b + (a + c)
    turn a b c = omega arith

split : (f : List Term) → EachMono (IsAffine 2) f → LowSplit f
unfolding weigh
split [] h = record { member = []; holds = in_none 7 2 gs; at_one = 0; at_x = 0; at_y = 0; at_xy = 0; weighs = λ χ. let e : 0 ≡ 0 + low 0 0 0 0 χ = omega arith in ap (λ (n : ℕ). n % 7) e }
split (t ∷ f) h = go (exponents_of t.mono h.0) (split f h.1)
  where
    by_x : (i j : ℕ) → times (mono_of i j) (mono_of 2 0) ≡ mono_of (suc (suc i)) j
    by_x i j = let a : i + 2 ≡ suc (suc i) = omega arith in let b : j + 0 ≡ j = omega arith in λ k. mono_of (a k) (b k)

    by_y : (i j : ℕ) → times (mono_of i j) (mono_of 0 2) ≡ mono_of i (suc (suc j))
    by_y i j = let a : i + 0 ≡ i = omega arith in let b : j + 2 ≡ suc (suc j) = omega arith in λ k. mono_of (a k) (b k)

    first : (k a b c e w x y z : ℕ) → k * w + (a * w + b * x + c * y + e * z) ≡ (a + k) * w + b * x + c * y + e * z
    first k a b c e w x y z = omega arith

    second : (k a b c e w x y z : ℕ) → k * x + (a * w + b * x + c * y + e * z) ≡ a * w + (b + k) * x + c * y + e * z
    second k a b c e w x y z = omega arith

    third : (k a b c e w x y z : ℕ) → k * y + (a * w + b * x + c * y + e * z) ≡ a * w + b * x + (c + k) * y + e * z
    third k a b c e w x y z = omega arith

    fourth : (k a b c e w x y z : ℕ) → k * z + (a * w + b * x + c * y + e * z) ≡ a * w + b * x + c * y + (e + k) * z
    fourth k a b c e w x y z = omega arith

    go : (i : ℕ) × (j : ℕ) × (t.mono ≡ mono_of i j) → LowSplit f → LowSplit (t ∷ f)
    go (suc (suc i), j, e) s = multiple_split t f (mono_of i j) (mono_of 2 0) (by_x i j ∙ sym e) (affine_mono i j) holds_x s
    go (zero, suc (suc j), e) s = multiple_split t f (mono_of 0 j) (mono_of 0 2) (by_y 0 j ∙ sym e) (affine_mono 0 j) holds_y s
    go (suc zero, suc (suc j), e) s = multiple_split t f (mono_of 1 j) (mono_of 0 2) (by_y 1 j ∙ sym e) (affine_mono 1 j) holds_y s
    go (zero, zero, e) s = low_split t f (mono_of 0 0) e s (s.at_one + t.coeff) s.at_x s.at_y s.at_xy
        (λ χ. first t.coeff s.at_one s.at_x s.at_y s.at_xy (χ (mono_of 0 0)) (χ (mono_of 1 0)) (χ (mono_of 0 1)) (χ (mono_of 1 1)))
    go (suc zero, zero, e) s = low_split t f (mono_of 1 0) e s s.at_one (s.at_x + t.coeff) s.at_y s.at_xy
        (λ χ. second t.coeff s.at_one s.at_x s.at_y s.at_xy (χ (mono_of 0 0)) (χ (mono_of 1 0)) (χ (mono_of 0 1)) (χ (mono_of 1 1)))
    go (zero, suc zero, e) s = low_split t f (mono_of 0 1) e s s.at_one s.at_x (s.at_y + t.coeff) s.at_xy
        (λ χ. third t.coeff s.at_one s.at_x s.at_y s.at_xy (χ (mono_of 0 0)) (χ (mono_of 1 0)) (χ (mono_of 0 1)) (χ (mono_of 1 1)))
    go (suc zero, suc zero, e) s = low_split t f (mono_of 1 1) e s s.at_one s.at_x s.at_y (s.at_xy + t.coeff)
        (λ χ. fourth t.coeff s.at_one s.at_x s.at_y s.at_xy (χ (mono_of 0 0)) (χ (mono_of 1 0)) (χ (mono_of 0 1)) (χ (mono_of 1 1)))

-- ---- the basis

abbrev pub four : List (List Term)
four = one ∷ (term_of 1 1 0 ∷ []) ∷ (term_of 1 0 1 ∷ []) ∷ (term_of 1 1 1 ∷ []) ∷ []

four_poly : All (IsPoly 7 2) four
four_poly =
    All-cons (IsPoly 7 2) one ((term_of 1 1 0 ∷ []) ∷ (term_of 1 0 1 ∷ []) ∷ (term_of 1 1 1 ∷ []) ∷ []) (poly_one 7 2 (omega arith))
    (All-cons (IsPoly 7 2) (term_of 1 1 0 ∷ []) ((term_of 1 0 1 ∷ []) ∷ (term_of 1 1 1 ∷ []) ∷ []) (poly_of_term 1 1 0 (omega arith) (omega arith))
    (All-cons (IsPoly 7 2) (term_of 1 0 1 ∷ []) ((term_of 1 1 1 ∷ []) ∷ []) (poly_of_term 1 0 1 (omega arith) (omega arith))
    (All-cons (IsPoly 7 2) (term_of 1 1 1 ∷ []) [] (poly_of_term 1 1 1 (omega arith) (omega arith)) (All-nil (IsPoly 7 2)))))

-- the weight of a combination by numbers
abbrev pub linear : (Monomial → ℕ) → List ℕ → List (List Term) → ℕ
linear χ [] us = 0
linear χ (c ∷ cs) [] = 0
linear χ (c ∷ cs) (u ∷ us) = c * weigh χ u + linear χ cs us

pub weigh-numbers : (χ : Monomial → ℕ) (cs : List ℕ) (us : List (List Term)) → weigh χ (number_combination 7 cs us) % 7 ≡ linear χ cs us % 7
unfolding weigh
weigh-numbers χ [] us = refl
weigh-numbers χ (c ∷ cs) [] = refl
weigh-numbers χ (c ∷ cs) (u ∷ us) =
    weigh-normal 7 χ (multiple 7 c u ++ number_combination 7 cs us)
    ∙ ap (λ (n : ℕ). n % 7) (weigh-append χ (multiple 7 c u) (number_combination 7 cs us))
    ∙ mod_plus 7 (weigh χ (multiple 7 c u)) (c * weigh χ u) (weigh χ (number_combination 7 cs us)) (linear χ cs us) (weigh-normal 7 χ (scaled c u) ∙ ap (λ (n : ℕ). n % 7) (weigh-scaled χ c u)) (weigh-numbers χ cs us)

module _ (f : List Term) (h : IsPoly 7 2 f) where
  s : LowSplit f
  s = split f h.affine

  rs : List ℕ
  rs = (s.at_one % 7) ∷ (s.at_x % 7) ∷ (s.at_y % 7) ∷ (s.at_xy % 7) ∷ []

  small : All (λ c. c < 7) rs
  unfolding rs
  small =
      All-cons (λ c. c < 7) (s.at_one % 7) ((s.at_x % 7) ∷ (s.at_y % 7) ∷ (s.at_xy % 7) ∷ []) (mod-lt s.at_one (omega arith))
      (All-cons (λ c. c < 7) (s.at_x % 7) ((s.at_y % 7) ∷ (s.at_xy % 7) ∷ []) (mod-lt s.at_x (omega arith))
      (All-cons (λ c. c < 7) (s.at_y % 7) ((s.at_xy % 7) ∷ []) (mod-lt s.at_y (omega arith))
      (All-cons (λ c. c < 7) (s.at_xy % 7) [] (mod-lt s.at_xy (omega arith)) (All-nil (λ c. c < 7)))))

  combined : List Term
  combined = number_combination 7 rs four

  weigh-combined : (χ : Monomial → ℕ) → weigh χ combined % 7 ≡ low s.at_one s.at_x s.at_y s.at_xy χ % 7
  unfolding combined rs weigh
  weigh-combined χ =
      weigh-numbers χ rs four
      ∙ ap (λ (n : ℕ). n % 7) (plain (s.at_one % 7) (s.at_x % 7) (s.at_y % 7) (s.at_xy % 7) (χ (mono_of 0 0)) (χ (mono_of 1 0)) (χ (mono_of 0 1)) (χ (mono_of 1 1)))
      ∙ mod_plus 7 ((s.at_one % 7) * χ (mono_of 0 0) + (s.at_x % 7) * χ (mono_of 1 0) + (s.at_y % 7) * χ (mono_of 0 1)) (s.at_one * χ (mono_of 0 0) + s.at_x * χ (mono_of 1 0) + s.at_y * χ (mono_of 0 1)) ((s.at_xy % 7) * χ (mono_of 1 1)) (s.at_xy * χ (mono_of 1 1))
      (mod_plus 7 ((s.at_one % 7) * χ (mono_of 0 0) + (s.at_x % 7) * χ (mono_of 1 0)) (s.at_one * χ (mono_of 0 0) + s.at_x * χ (mono_of 1 0)) ((s.at_y % 7) * χ (mono_of 0 1)) (s.at_y * χ (mono_of 0 1))
      (mod_plus 7 ((s.at_one % 7) * χ (mono_of 0 0)) (s.at_one * χ (mono_of 0 0)) ((s.at_x % 7) * χ (mono_of 1 0)) (s.at_x * χ (mono_of 1 0)) (mul-mod_first s.at_one (χ (mono_of 0 0)) 7) (mul-mod_first s.at_x (χ (mono_of 1 0)) 7))
      (mul-mod_first s.at_y (χ (mono_of 0 1)) 7))
      (mul-mod_first s.at_xy (χ (mono_of 1 1)) 7)
    where
      plain : (a b c e w x y z : ℕ) → a * (1 * w + 0) + (b * (1 * x + 0) + (c * (1 * y + 0) + (e * (1 * z + 0) + 0))) ≡ a * w + b * x + c * y + e * z
      plain a b c e w x y z = omega arith

  turn : (a b : ℕ) → (a + b) + 6 * b ≡ 7 * b + a
  turn a b = omega arith

  alike : Alike 7 (f ++ multiple 7 6 combined) s.member
  alike χ =
      ap (λ (n : ℕ). n % 7) (weigh-append χ f (multiple 7 6 combined))
      ∙ mod_plus 7 (weigh χ f) (weigh χ s.member + low s.at_one s.at_x s.at_y s.at_xy χ) (weigh χ (multiple 7 6 combined)) (6 * low s.at_one s.at_x s.at_y s.at_xy χ)
      (s.weighs χ)
      (weigh-normal 7 χ (scaled 6 combined)
      ∙ ap (λ (n : ℕ). n % 7) (weigh-scaled χ 6 combined)
      ∙ sym (mul-mod_second 6 (weigh χ combined) 7)
      ∙ ap (λ (n : ℕ). (6 * n) % 7) (weigh-combined χ)
      ∙ mul-mod_second 6 (low s.at_one s.at_x s.at_y s.at_xy χ) 7)
      ∙ ap (λ (n : ℕ). n % 7) (turn (weigh χ s.member) (low s.at_one s.at_x s.at_y s.at_xy χ))
      ∙ mul-add-mod_self_left 7 (low s.at_one s.at_x s.at_y s.at_xy χ) (weigh χ s.member)

  same : sub 7 f combined ≡ s.member
  same = normal_ext 7 (f ++ multiple 7 6 combined) s.member alike ∙ canonical_same 7 s.member (in_poly 7 2 gs s.member (omega arith) gs_poly s.holds).canonical

  pub spanned : IsSpanned 7 2 gs four f
  unfolding combined rs
  spanned = record { residues = rs; below = small; as_many = refl; close = subst (InIdeal 7 2 gs) (sym same) s.holds }

four_span : Spans 7 2 gs four
four_span = record { polys = four_poly; each = spanned }

-- ---- they are independent

-- 1 at 1, and 0 elsewhere
unfoldable pub is_one : ℕ → ℕ
is_one zero = 0
is_one (suc n) = is_zero n

-- 0 from 2 on
abbrev pub IsLinear : (ℕ → ℕ) → Type 0
IsLinear u = (n : ℕ) → u (suc (suc n)) ≡ 0

pub zero_is_low : IsLinear is_zero
unfolding is_zero
zero_is_low n = refl

pub one_is_low : IsLinear is_one
unfolding is_one is_zero
one_is_low n = refl

abbrev pub both : (ℕ → ℕ) → (ℕ → ℕ) → ℕ → ℕ → ℕ
both u v i j = u i * v j

module _ (u v : ℕ → ℕ) (a : IsLinear u) (b : IsLinear v) where
  square_passes : Passes (on (both u v)) (term_of 1 2 0 ∷ [])
  unfolding weigh
  square_passes i j =
      let e : u (i + 2) ≡ 0 = (let k : i + 2 ≡ suc (suc i) = omega arith in ap u k ∙ a i) in
      let z : 1 * (0 * v (j + 0)) + 0 ≡ 0 = omega arith in
      ap (λ n. (1 * (n * v (j + 0)) + 0) % 7) e ∙ ap (λ (n : ℕ). n % 7) z

  curve_passes : Passes (on (both u v)) curve
  unfolding weigh
  curve_passes i j =
      let e : u (i + 3) ≡ 0 = (let k : i + 3 ≡ suc (suc (i + 1)) = omega arith in ap u k ∙ a (i + 1)) in
      let w : v (j + 2) ≡ 0 = (let k : j + 2 ≡ suc (suc j) = omega arith in ap v k ∙ b j) in
      let z : 1 * (0 * v (j + 0)) + (6 * (u (i + 0) * 0) + 0) ≡ 0 = omega arith in
      (λ k. (1 * (e k * v (j + 0)) + (6 * (u (i + 0) * w k) + 0)) % 7) ∙ ap (λ (n : ℕ). n % 7) z

  pub passes : All (Passes (on (both u v))) gs
  passes = All-cons (Passes (on (both u v))) (term_of 1 2 0 ∷ []) (curve ∷ []) square_passes (All-cons (Passes (on (both u v))) curve [] curve_passes (All-nil (Passes (on (both u v)))))

  tested : (cs : List ℕ) → InIdeal 7 2 gs (number_combination 7 cs four) → linear (on (both u v)) cs four % 7 ≡ 0
  tested cs i =
      sym (weigh-numbers (on (both u v)) cs four)
      ∙ test_member (on (both u v)) gs (number_combination 7 cs four) passes i

zeros : (cs : List ℕ) → All (λ c. c < 7) cs → length cs ≡ 4 → InIdeal 7 2 gs (number_combination 7 cs four) → All (λ c. c ≡ 0) cs
unfolding weigh is_zero is_one
zeros [] h l i = absurd (omega arith)
zeros (a ∷ []) h l i = absurd (omega arith)
zeros (a ∷ b ∷ []) h l i = absurd (omega arith)
zeros (a ∷ b ∷ c ∷ []) h l i = absurd (omega arith)
zeros (a ∷ b ∷ c ∷ e ∷ k ∷ cs) h l i = absurd (omega arith)
zeros (a ∷ b ∷ c ∷ e ∷ []) h l i =
    let ha = All-head (λ n. n < 7) a (b ∷ c ∷ e ∷ []) h in
    let hb = All-head (λ n. n < 7) b (c ∷ e ∷ []) (All-tail (λ n. n < 7) a (b ∷ c ∷ e ∷ []) h) in
    let hc = All-head (λ n. n < 7) c (e ∷ []) (All-tail (λ n. n < 7) b (c ∷ e ∷ []) (All-tail (λ n. n < 7) a (b ∷ c ∷ e ∷ []) h)) in
    let he = All-head (λ n. n < 7) e [] (All-tail (λ n. n < 7) c (e ∷ []) (All-tail (λ n. n < 7) b (c ∷ e ∷ []) (All-tail (λ n. n < 7) a (b ∷ c ∷ e ∷ []) h))) in
    let ta : (a * 1 + (b * 0 + (c * 0 + (e * 0 + 0)))) % 7 ≡ 0 = tested is_zero is_zero zero_is_low zero_is_low (a ∷ b ∷ c ∷ e ∷ []) i in
    let tb : (a * 0 + (b * 1 + (c * 0 + (e * 0 + 0)))) % 7 ≡ 0 = tested is_one is_zero one_is_low zero_is_low (a ∷ b ∷ c ∷ e ∷ []) i in
    let tc : (a * 0 + (b * 0 + (c * 1 + (e * 0 + 0)))) % 7 ≡ 0 = tested is_zero is_one zero_is_low one_is_low (a ∷ b ∷ c ∷ e ∷ []) i in
    let te : (a * 0 + (b * 0 + (c * 0 + (e * 1 + 0)))) % 7 ≡ 0 = tested is_one is_one one_is_low one_is_low (a ∷ b ∷ c ∷ e ∷ []) i in
    All-cons (λ n. n ≡ 0) a (b ∷ c ∷ e ∷ []) (omega arith)
    (All-cons (λ n. n ≡ 0) b (c ∷ e ∷ []) (omega arith)
    (All-cons (λ n. n ≡ 0) c (e ∷ []) (omega arith)
    (All-cons (λ n. n ≡ 0) e [] (omega arith) (All-nil (λ n. n ≡ 0)))))

pub cusp_has_dimension_four : CuspHasDimensionFour
cusp_has_dimension_four = counts_dimension_law 7 2 seven_is_prime gs gs_poly four four_span zeros

pub cusp_is_finite : IsFinite cusp
cusp_is_finite = record {
  curve = record {
    prime = seven_is_prime;
    ideal = All-cons (IsPoly 7 2) curve [] curve_poly (All-nil (IsPoly 7 2));
    denominator = poly_of_term 1 2 0 (omega arith) (omega arith);
    regular = cusp_is_regular;
  };
  dimension = (4, cusp_has_dimension_four);
}
