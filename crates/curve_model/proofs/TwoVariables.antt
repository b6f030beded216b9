-- Polynomials in x and y over F_7, split into a member of the ideal of y, x and a constant.
use Rattle.std.proofs.Common.{◌≡◌, ℕ, ◌+◌, ◌*◌, ◌%◌, zero, suc, List, [], ◌∷◌, ◌++◌, length, refl, sym, ap, ◌∙◌, subst, arith}
use Rattle.std.specs.List.{All}
use Rattle.std.proofs.lemmas.List.Elements.{All-nil, All-cons}
use Rattle.std.proofs.lemmas.Nat.{mul-mod_first}
use Rattle.monomials.specs.Mono.{Monomial, times, unit}
use Rattle.polys.specs.declared.term.Term.{Term}
use Rattle.polys.specs.Terms.{IsPoly, EachMono, IsAffine, OnlyFirst, normal, add, mul, products}
use Rattle.polys.specs.Ideal.{InIdeal}
use Rattle.polys.proofs.Weights.{weigh, Alike, weigh-append, weigh-normal, normal_ext, mod_plus}
use Rattle.polys.proofs.Sums.{mul_normal_left}
use Rattle.polys.proofs.Units.{canonical_same}
use Rattle.polys.proofs.Affine.{poly_normal, zeros}
use Rattle.ideal_laws.proofs.Ideals.{in_none, in_add, in_mul, in_head, in_more, in_poly}
use Rattle.curve_model.specs.Examples.{term_of, origin}
use Rattle.curve_model.proofs.Origin.{is_zero, at_one, value}
use Rattle.curve_model.proofs.Cusp.{poly_of_term}

-- ---- monomials in x and y

abbrev pub mono_of : ℕ → ℕ → Monomial
mono_of i j = (term_of 1 i j).mono

pub exponents_of : (m : Monomial) → IsAffine 2 m → (i : ℕ) × (j : ℕ) × (m ≡ mono_of i j)
exponents_of m h = go m.exponents m.component h.seven h.first h.plain
  where
    go : (a : List ℕ) (c : ℕ) → length a ≡ 7 → OnlyFirst 2 a → c ≡ 0 → (i : ℕ) × (j : ℕ) × (record { exponents = a; component = c } ≡ mono_of i j)
    go [] c s f z = absurd (omega arith)
    go (i ∷ []) c s f z = absurd (omega arith)
    go (i ∷ j ∷ a) c s f z = let e = zeros 5 a (omega arith) f in (i, j, λ k. record { exponents = i ∷ j ∷ e k; component = z k })

pub affine_mono : (i j : ℕ) → IsAffine 2 (mono_of i j)
affine_mono i j = record { seven = refl; first = (refl, (refl, (refl, (refl, (refl, tt))))); plain = refl }

pub times_x : (i j : ℕ) → times (mono_of i j) (mono_of 1 0) ≡ mono_of (suc i) j
times_x i j =
    let a : i + 1 ≡ suc i = omega arith in
    let b : j + 0 ≡ j = omega arith in
    λ k. record { exponents = a k ∷ b k ∷ 0 ∷ 0 ∷ 0 ∷ 0 ∷ 0 ∷ []; component = 0 }

pub times_y : (i j : ℕ) → times (mono_of i j) (mono_of 0 1) ≡ mono_of i (suc j)
times_y i j =
    let a : i + 0 ≡ i = omega arith in
    let b : j + 1 ≡ suc j = omega arith in
    λ k. record { exponents = a k ∷ b k ∷ 0 ∷ 0 ∷ 0 ∷ 0 ∷ 0 ∷ []; component = 0 }

pub at_one-x : (i j : ℕ) → at_one (mono_of (suc i) j) ≡ 0
unfolding at_one is_zero
at_one-x i j = let e : (suc i + (j + 0)) + 0 ≡ suc (i + j) = omega arith in ap is_zero e

pub at_one-y : (i j : ℕ) → at_one (mono_of i (suc j)) ≡ 0
unfolding at_one is_zero
at_one-y i j = let e : (i + (suc j + 0)) + 0 ≡ suc (i + j) = omega arith in ap is_zero e

pub at_one-unit : at_one unit ≡ 1
unfolding at_one is_zero
at_one-unit = refl

-- ---- the ideal of y and x

pub holds_y : InIdeal 7 2 origin (term_of 1 0 1 ∷ [])
holds_y = in_head 7 2 (term_of 1 0 1 ∷ []) ((term_of 1 1 0 ∷ []) ∷ []) (omega arith) (poly_of_term 1 0 1 (omega arith) (omega arith))

pub holds_x : InIdeal 7 2 origin (term_of 1 1 0 ∷ [])
holds_x =
    in_more 7 2 (term_of 1 0 1 ∷ []) ((term_of 1 1 0 ∷ []) ∷ []) (term_of 1 1 0 ∷ [])
    (in_head 7 2 (term_of 1 1 0 ∷ []) [] (omega arith) (poly_of_term 1 1 0 (omega arith) (omega arith)))

pub origin_polys : All (IsPoly 7 2) origin
origin_polys =
    All-cons (IsPoly 7 2) (term_of 1 0 1 ∷ []) ((term_of 1 1 0 ∷ []) ∷ []) (poly_of_term 1 0 1 (omega arith) (omega arith))
    (All-cons (IsPoly 7 2) (term_of 1 1 0 ∷ []) [] (poly_of_term 1 1 0 (omega arith) (omega arith)) (All-nil (IsPoly 7 2)))

-- ---- a polynomial is a member and a constant

abbrev pub constant_term : ℕ → List Term
constant_term w = record { coeff = w; mono = unit } ∷ []

pub record Split (f : List Term) : Type 0 where
  pub member : List Term
  pub holds : InIdeal 7 2 origin member
  pub alike : Alike 7 f (member ++ constant_term (value f))

pub weigh-constant : (χ : Monomial → ℕ) (q : List Term) (w : ℕ) → weigh χ (q ++ constant_term w) ≡ weigh χ q + w * χ unit
unfolding weigh
weigh-constant χ q w = weigh-append χ q (constant_term w) ∙ (let e : weigh χ q + (w * χ unit + 0) ≡ weigh χ q + w * χ unit = omega arith in e)

-- the constant term of f goes to the constant
split_unit : (t : Term) (f : List Term) → t.mono ≡ unit → Split f → Split (t ∷ f)
unfolding weigh
split_unit t f e s = record {
  member = s.member;
  holds = s.holds;
  alike = λ χ.
      let a : χ t.mono ≡ χ unit = ap χ e in
      let b : at_one t.mono ≡ 1 = ap at_one e ∙ at_one-unit in
      mod_plus 7 (t.coeff * χ t.mono) (t.coeff * χ unit) (weigh χ f) (weigh χ s.member + value f * χ unit)
      (ap (λ (n : ℕ). (t.coeff * n) % 7) a) (s.alike χ ∙ ap (λ (n : ℕ). n % 7) (weigh-constant χ s.member (value f)))
      ∙ ap (λ (n : ℕ). n % 7) (turn t.coeff (at_one t.mono) (χ unit) (weigh χ s.member) (value f) b ∙ sym (weigh-constant χ s.member (value (t ∷ f))));
}
  where
    turn : (c k u q v : ℕ) → k ≡ 1 → c * u + (q + v * u) ≡ q + (c * k + v) * u
    turn c k u q v e = rw e (omega arith)

-- a multiple of x or y goes to the member
split_multiple : (t : Term) (f : List Term) (m v : Monomial) → times m v ≡ t.mono → at_one t.mono ≡ 0 → IsAffine 2 m → InIdeal 7 2 origin (record { coeff = 1; mono = v } ∷ [])
    → Split f → Split (t ∷ f)
unfolding weigh
split_multiple t f m v e z h g s = record {
  member = add 7 part s.member;
  holds = in_add 7 2 origin part s.member (omega arith) part_holds s.holds;
  alike = λ χ.
      mod_plus 7 (t.coeff * χ t.mono) (weigh χ part) (weigh χ f) (weigh χ s.member + value f * χ unit) (sym (part_weighs χ))
      (s.alike χ ∙ ap (λ (n : ℕ). n % 7) (weigh-constant χ s.member (value f)))
      ∙ ap (λ (n : ℕ). n % 7) (turn (weigh χ part) (weigh χ s.member) (value f * χ unit))
      ∙ mod_plus 7 (weigh χ part + weigh χ s.member) (weigh χ (add 7 part s.member)) (value f * χ unit) (value (t ∷ f) * χ unit)
      (ap (λ (n : ℕ). n % 7) (sym (weigh-append χ part s.member)) ∙ sym (weigh-normal 7 χ (part ++ s.member)))
      (ap (λ (n : ℕ). (n * χ unit) % 7) (sym low))
      ∙ ap (λ (n : ℕ). n % 7) (sym (weigh-constant χ (add 7 part s.member) (value (t ∷ f))));
}
  where
    cofactor : List Term
    cofactor = normal 7 (record { coeff = t.coeff; mono = m } ∷ [])

    part : List Term
    part = mul 7 cofactor (record { coeff = 1; mono = v } ∷ [])

    part_holds : InIdeal 7 2 origin part
    part_holds =
        in_mul 7 2 origin cofactor (record { coeff = 1; mono = v } ∷ []) (omega arith) (poly_normal 7 2 (record { coeff = t.coeff; mono = m } ∷ []) (omega arith) (h, tt)) g

    single : (c x : ℕ) → c * 1 * x + 0 ≡ c * x
    single c x = omega arith

    part_weighs : (χ : Monomial → ℕ) → weigh χ part % 7 ≡ (t.coeff * χ t.mono) % 7
    part_weighs χ =
        ap (λ w. weigh χ w % 7) (mul_normal_left 7 (record { coeff = t.coeff; mono = m } ∷ []) (record { coeff = 1; mono = v } ∷ []))
        ∙ weigh-normal 7 χ (products (record { coeff = t.coeff; mono = m } ∷ []) (record { coeff = 1; mono = v } ∷ []))
        ∙ ap (λ (n : ℕ). n % 7) (single t.coeff (χ (times m v)) ∙ ap (λ w. t.coeff * χ w) e)

    turn : (a b c : ℕ) → a + (b + c) ≡ (a + b) + c
    turn a b c = omega arith

    low : value (t ∷ f) ≡ value f
    low = rw z (let q : t.coeff * 0 + value f ≡ value f = omega arith in q)

pub split : (f : List Term) → EachMono (IsAffine 2) f → Split f
unfolding weigh
split [] h = record {
  member = [];
  holds = in_none 7 2 origin;
  alike = λ χ. let e : 0 ≡ 0 * χ unit + 0 = omega arith in ap (λ (n : ℕ). n % 7) e;
}
split (t ∷ f) h = go (exponents_of t.mono h.0) (split f h.1)
  where
    go : (i : ℕ) × (j : ℕ) × (t.mono ≡ mono_of i j) → Split f → Split (t ∷ f)
    go (zero, zero, e) s = split_unit t f e s
    go (suc i, j, e) s = split_multiple t f (mono_of i j) (mono_of 1 0) (times_x i j ∙ sym e) (ap at_one e ∙ at_one-x i j) (affine_mono i j) holds_x s
    go (zero, suc j, e) s = split_multiple t f (mono_of 0 j) (mono_of 0 1) (times_y 0 j ∙ sym e) (ap at_one e ∙ at_one-y 0 j) (affine_mono 0 j) holds_y s

-- ---- a polynomial and its constant

-- a polynomial is its member plus its constant
pub whole : (f : List Term) → IsPoly 7 2 f → (s : Split f) → f ≡ add 7 s.member (constant_term (value f))
whole f h s = sym (canonical_same 7 f h.canonical) ∙ normal_ext 7 f (s.member ++ constant_term (value f)) s.alike

pub member_poly : (f : List Term) (s : Split f) → IsPoly 7 2 s.member
member_poly f s = in_poly 7 2 origin s.member (omega arith) origin_polys s.holds

-- a polynomial whose constant is 0 is a member
pub vanishing_member : (f : List Term) → IsPoly 7 2 f → value f % 7 ≡ 0 → InIdeal 7 2 origin f
unfolding weigh
vanishing_member f h z = subst (InIdeal 7 2 origin) (sym same) s.holds
  where
    s : Split f
    s = split f h.affine

    alike : Alike 7 f s.member
    alike χ =
        let n : 0 * χ unit ≡ 0 = omega arith in
        let e : weigh χ s.member + 0 ≡ weigh χ s.member = omega arith in
        s.alike χ
        ∙ ap (λ (n : ℕ). n % 7) (weigh-constant χ s.member (value f))
        ∙ mod_plus 7 (weigh χ s.member) (weigh χ s.member) (value f * χ unit) 0 refl
        (sym (mul-mod_first (value f) (χ unit) 7) ∙ ap (λ (n : ℕ). (n * χ unit) % 7) z ∙ ap (λ (n : ℕ). n % 7) n)
        ∙ ap (λ (n : ℕ). n % 7) e

    same : f ≡ s.member
    same =
        sym (canonical_same 7 f h.canonical)
        ∙ normal_ext 7 f s.member alike
        ∙ canonical_same 7 s.member (member_poly f s).canonical
