-- The origin is a point of the cusp, of degree 1.
use Rattle.std.proofs.Common.{◌≡◌, ◌⊎◌, inl, inr, ℕ, ◌+◌, ◌*◌, ◌%◌, ◌<◌, ◌≤◌, zero, suc, List, [], ◌∷◌, ◌++◌, length, get_or, refl, sym, ap, ◌∙◌, subst, arith}
use Rattle.std.specs.List.{All, AllPairs, Contains}
use Rattle.std.proofs.lemmas.List.Elements.{All-nil, All-cons}
use Rattle.std.specs.declared.cmp.Ordering.TheVariants.{Less, Greater}
use native.Mathlib.Nat.{mod-lt, mod-eq_of_lt, mul-add-mod_self_left}
use Rattle.std.proofs.lemmas.Nat.{mul-mod_first, mul-mod_second}
use Rattle.monomials.specs.Mono.{Monomial, Divides, times, unit, cmp_dp}
use Rattle.monomials.proofs.Exponents.{zeros_at}
use Rattle.monomials.proofs.Order.{multiple_not_less, times_comm, times_one, turn_down}
use Rattle.prime_field.specs.Primes.{IsPrime}
use Rattle.prime_field.proofs.Table.{characteristics-are_prime}
use Rattle.polys.specs.declared.term.Term.{Term}
use Rattle.polys.specs.Terms.{IsPoly, IsMonic, IsAffine, add, sub, multiple, scaled, one}
use Rattle.polys.specs.Ideal.{InIdeal, Spans, IsSpanned, number_combination}
use Rattle.polys.specs.Reduced.{Reduced, leads, lower_monos, IsLead, IsMinimalLead}
use Rattle.polys.proofs.Weights.{weigh, Alike, weigh-append, weigh-normal, normal_ext, mod_plus}
use Rattle.polys.proofs.Units.{canonical_same, weigh-scaled}
use Rattle.polys.proofs.Affine.{poly_one}
use Rattle.polys.proofs.Field.{inverse}
use Rattle.ideal_laws.proofs.Ideals.{in_add, in_head, in_more, in_multiple, in_poly}
use Rattle.ideal_laws.proofs.Unique.{contains_head, contains_tail, contains_cases, contains_none}
use Rattle.curve_model.specs.Examples.{term_of, origin, OriginIsPoint, OriginHasDegreeOne}
use Rattle.curve_model.proofs.Origin.{is_zero, at_one, value, Vanishes, vanishes_member}
use Rattle.curve_model.proofs.Cusp.{poly_of_term}
use Rattle.curve_model.proofs.TwoVariables.{mono_of, exponents_of, at_one-unit, holds_x, holds_y, origin_polys, weigh-constant, Split, split, member_poly, vanishing_member}

pub seven_is_prime : IsPrime 7
seven_is_prime = characteristics-are_prime 7 refl

-- ---- leads of members

origin_vanishes : All (Vanishes 7) origin
unfolding weigh at_one is_zero
origin_vanishes =
    All-cons (Vanishes 7) (term_of 1 0 1 ∷ []) ((term_of 1 1 0 ∷ []) ∷ []) refl (All-cons (Vanishes 7) (term_of 1 1 0 ∷ []) [] refl (All-nil (Vanishes 7)))

-- no monomial is below 1
none_below_unit : (m : Monomial) → IsAffine 2 m → cmp_dp unit m ≡ Greater → ⊥
none_below_unit m h e =
    let same : times unit m ≡ m = times_comm unit m ∙ times_one m h.seven in
    multiple_not_less unit m (sym h.seven) h.plain ((λ i. cmp_dp (same i) unit) ∙ turn_down unit m e)

lead_not_unit : (t : Term) (f : List Term) → InIdeal 7 2 origin (t ∷ f) → t.mono ≡ unit → ⊥
unfolding weigh
lead_not_unit t f i e = go f (in_poly 7 2 origin (t ∷ f) (omega arith) origin_polys i) (vanishes_member 7 2 origin (t ∷ f) origin_vanishes i)
  where
    go : (f : List Term) → IsPoly 7 2 (t ∷ f) → Vanishes 7 (t ∷ f) → ⊥
    go [] h v =
        let o : at_one t.mono ≡ 1 = ap at_one e ∙ at_one-unit in
        let k : t.coeff * at_one t.mono + 0 ≡ t.coeff = rw o (let q : t.coeff * 1 + 0 ≡ t.coeff = omega arith in q) in
        let z : t.coeff ≡ 0 = sym (mod-eq_of_lt h.canonical.1) ∙ ap (λ (n : ℕ). n % 7) (sym k) ∙ v in
        let pos = h.canonical.0 in
        absurd (omega arith)
    go (u ∷ f) h v = none_below_unit u.mono h.affine.1.0 (subst (λ m. cmp_dp m u.mono ≡ Greater) e h.canonical.2)

-- the exponents of a lead, which are not both 0
lead_exponents : (m : Monomial) → IsLead 7 2 origin m → (i : ℕ) × (j : ℕ) × (m ≡ mono_of i j) × (0 < i + j)
lead_exponents m (t, f, i, e) = go (exponents_of t.mono (in_poly 7 2 origin (t ∷ f) (omega arith) origin_polys i).affine.0)
  where
    go : (a : ℕ) × (b : ℕ) × (t.mono ≡ mono_of a b) → (a : ℕ) × (b : ℕ) × (m ≡ mono_of a b) × (0 < a + b)
    go (zero, zero, q) = absurd (lead_not_unit t f i q)
    go (suc a, b, q) = (suc a, b, sym e ∙ q, omega arith)
    go (zero, suc b, q) = (zero, suc b, sym e ∙ q, omega arith)

lead_x : IsLead 7 2 origin (mono_of 1 0)
lead_x = (term_of 1 1 0, [], holds_x, refl)

lead_y : IsLead 7 2 origin (mono_of 0 1)
lead_y = (term_of 1 0 1, [], holds_y, refl)

minimal_x : IsMinimalLead 7 2 origin (mono_of 1 0)
minimal_x = (lead_x, λ w l d. go (lead_exponents w l) d)
  where
    go : {w : Monomial} → (i : ℕ) × (j : ℕ) × (w ≡ mono_of i j) × (0 < i + j) → Divides w (mono_of 1 0) → w ≡ mono_of 1 0
    go {w = w} (i, j, e, pos) d =
        let a : i ≤ 1 = subst (λ m. get_or m.exponents 0 0 ≤ 1) e (d.none_greater 0) in
        let b : j ≤ 0 = subst (λ m. get_or m.exponents 1 0 ≤ 0) e (d.none_greater 1) in
        let i1 : i ≡ 1 = omega arith in
        let j0 : j ≡ 0 = omega arith in
        e ∙ (λ k. mono_of (i1 k) (j0 k))

minimal_y : IsMinimalLead 7 2 origin (mono_of 0 1)
minimal_y = (lead_y, λ w l d. go (lead_exponents w l) d)
  where
    go : {w : Monomial} → (i : ℕ) × (j : ℕ) × (w ≡ mono_of i j) × (0 < i + j) → Divides w (mono_of 0 1) → w ≡ mono_of 0 1
    go {w = w} (i, j, e, pos) d =
        let a : i ≤ 0 = subst (λ m. get_or m.exponents 0 0 ≤ 0) e (d.none_greater 0) in
        let b : j ≤ 1 = subst (λ m. get_or m.exponents 1 0 ≤ 1) e (d.none_greater 1) in
        let i0 : i ≡ 0 = omega arith in
        let j1 : j ≡ 1 = omega arith in
        e ∙ (λ k. mono_of (i0 k) (j1 k))

-- ---- the reduced basis

x_divides : (i j : ℕ) → Divides (mono_of 1 0) (mono_of (suc i) j)
x_divides i j = record { same = refl; none_greater = go }
  where
    go : (k : ℕ) → get_or (mono_of 1 0).exponents k 0 ≤ get_or (mono_of (suc i) j).exponents k 0
    go zero = omega arith
    go (suc k) = let z = zeros_at 6 k in omega arith

y_divides : (i j : ℕ) → Divides (mono_of 0 1) (mono_of i (suc j))
y_divides i j = record { same = refl; none_greater = go }
  where
    go : (k : ℕ) → get_or (mono_of 0 1).exponents k 0 ≤ get_or (mono_of i (suc j)).exponents k 0
    go zero = omega arith
    go (suc zero) = omega arith
    go (suc (suc k)) = let z = zeros_at 5 k in omega arith

contains_minimal : (m : Monomial) → Contains (leads origin) m → IsMinimalLead 7 2 origin m
contains_minimal m c = go (contains_cases (mono_of 0 1) m (mono_of 1 0 ∷ []) c)
  where
    go : (mono_of 0 1 ≡ m) ⊎ Contains (mono_of 1 0 ∷ []) m → IsMinimalLead 7 2 origin m
    go (inl e) = subst (IsMinimalLead 7 2 origin) e minimal_y
    go (inr d) = rest (contains_cases (mono_of 1 0) m [] d)
      where
        rest : (mono_of 1 0 ≡ m) ⊎ Contains [] m → IsMinimalLead 7 2 origin m
        rest (inl e) = subst (IsMinimalLead 7 2 origin) e minimal_x
        rest (inr n) = absurd (contains_none m n)

minimal_contains : (m : Monomial) → IsMinimalLead 7 2 origin m → Contains (leads origin) m
minimal_contains m h = go (lead_exponents m h.0)
  where
    at_x : mono_of 1 0 ≡ m → Contains (leads origin) m
    at_x e = contains_tail (mono_of 0 1) m (mono_of 1 0 ∷ []) (subst (Contains (mono_of 1 0 ∷ [])) e (contains_head (mono_of 1 0) []))

    at_y : mono_of 0 1 ≡ m → Contains (leads origin) m
    at_y e = subst (Contains (leads origin)) e (contains_head (mono_of 0 1) (mono_of 1 0 ∷ []))

    go : (i : ℕ) × (j : ℕ) × (m ≡ mono_of i j) × (0 < i + j) → Contains (leads origin) m
    go (zero, zero, e, pos) = absurd (omega arith)
    go (suc i, j, e, pos) = at_x (h.1 (mono_of 1 0) lead_x (subst (Divides (mono_of 1 0)) (sym e) (x_divides i j)))
    go (zero, suc j, e, pos) = at_y (h.1 (mono_of 0 1) lead_y (subst (Divides (mono_of 0 1)) (sym e) (y_divides 0 j)))

rising : AllPairs (λ m w. cmp_dp m w ≡ Less) (leads origin)
rising zero zero d a b = absurd (omega arith)
rising zero (suc zero) d a b = refl
rising zero (suc (suc j)) d a b = absurd (omega arith)
rising (suc i) zero d a b = absurd (omega arith)
rising (suc i) (suc zero) d a b = absurd (omega arith)
rising (suc i) (suc (suc j)) d a b = absurd (omega arith)

nothing_lower : (q : List Term) → Contains origin q → (m : Monomial) → Contains (lower_monos q) m → IsLead 7 2 origin m → ⊥
nothing_lower q c m k l = go (contains_cases (term_of 1 0 1 ∷ []) q ((term_of 1 1 0 ∷ []) ∷ []) c)
  where
    go : ((term_of 1 0 1 ∷ []) ≡ q) ⊎ Contains ((term_of 1 1 0 ∷ []) ∷ []) q → ⊥
    go (inl e) = contains_none m (subst (λ w. Contains (lower_monos w) m) (sym e) k)
    go (inr d) = rest (contains_cases (term_of 1 1 0 ∷ []) q [] d)
      where
        rest : ((term_of 1 1 0 ∷ []) ≡ q) ⊎ Contains [] q → ⊥
        rest (inl e) = contains_none m (subst (λ w. Contains (lower_monos w) m) (sym e) k)
        rest (inr n) = contains_none q n

reduced : Reduced 7 2 origin
reduced = record {
  polys = origin_polys;
  monic = All-cons IsMonic (term_of 1 0 1 ∷ []) ((term_of 1 1 0 ∷ []) ∷ []) refl (All-cons IsMonic (term_of 1 1 0 ∷ []) [] refl (All-nil IsMonic));
  rising = rising;
  minimal = λ m. (contains_minimal m, minimal_contains m);
  lower = nothing_lower;
}

-- ---- maximality

-- where the constant of f is a unit, f and the ideal generate 1
module _ (f : List Term) (h : IsPoly 7 2 f) where
  s : Split f
  s = split f h.affine

  -- 1 is b f less b times the member, where b is the inverse of the constant
  one_from : (b : ℕ) → (value f % 7 * b) % 7 ≡ 1 → one ≡ add 7 (multiple 7 b f) (multiple 7 (6 * b) s.member)
  unfolding weigh
  one_from b e = sym (canonical_same 7 one (poly_one 7 2 (omega arith)).canonical) ∙ normal_ext 7 one (multiple 7 b f ++ multiple 7 (6 * b) s.member) alike
    where
      turn : (b q w x : ℕ) → b * (q + w * x) + 6 * b * q ≡ 7 * (b * q) + w * b * x
      turn b q w x = omega arith

      parts : (χ : Monomial → ℕ) → weigh χ (multiple 7 b f ++ multiple 7 (6 * b) s.member) % 7 ≡ (b * (weigh χ s.member + value f * χ unit) + 6 * b * weigh χ s.member) % 7
      parts χ =
          ap (λ (n : ℕ). n % 7) (weigh-append χ (multiple 7 b f) (multiple 7 (6 * b) s.member))
          ∙ mod_plus 7 (weigh χ (multiple 7 b f)) (b * (weigh χ s.member + value f * χ unit)) (weigh χ (multiple 7 (6 * b) s.member)) (6 * b * weigh χ s.member)
          (weigh-normal 7 χ (scaled b f)
          ∙ ap (λ (n : ℕ). n % 7) (weigh-scaled χ b f)
          ∙ sym (mul-mod_second b (weigh χ f) 7)
          ∙ ap (λ (n : ℕ). (b * n) % 7) (s.alike χ ∙ ap (λ (n : ℕ). n % 7) (weigh-constant χ s.member (value f)))
          ∙ mul-mod_second b (weigh χ s.member + value f * χ unit) 7)
          (weigh-normal 7 χ (scaled (6 * b) s.member) ∙ ap (λ (n : ℕ). n % 7) (weigh-scaled χ (6 * b) s.member))

      unit_part : (x : ℕ) → (value f * b * x) % 7 ≡ (1 * x) % 7
      unit_part x =
          sym (mul-mod_first (value f * b) x 7)
          ∙ ap (λ (n : ℕ). (n * x) % 7) (sym (mul-mod_first (value f) b 7) ∙ e)

      alike : (χ : Monomial → ℕ) → weigh χ one % 7 ≡ weigh χ (multiple 7 b f ++ multiple 7 (6 * b) s.member) % 7
      alike χ =
          let k : 1 * χ unit + 0 ≡ 1 * χ unit = omega arith in
          ap (λ (n : ℕ). n % 7) k
          ∙ sym (parts χ
          ∙ ap (λ (n : ℕ). n % 7) (turn b (weigh χ s.member) (value f) (χ unit))
          ∙ mul-add-mod_self_left 7 (b * weigh χ s.member) (value f * b * χ unit)
          ∙ unit_part (χ unit))

  one_member : (b : ℕ) → (value f % 7 * b) % 7 ≡ 1 → InIdeal 7 2 (f ∷ origin) one
  one_member b e =
      subst (InIdeal 7 2 (f ∷ origin)) (sym (one_from b e))
      (in_add 7 2 (f ∷ origin) (multiple 7 b f) (multiple 7 (6 * b) s.member) (omega arith)
      (in_multiple 7 2 (f ∷ origin) b f (omega arith) h (in_head 7 2 f origin (omega arith) h))
      (in_multiple 7 2 (f ∷ origin) (6 * b) s.member (omega arith) (member_poly f s) (in_more 7 2 f origin s.member s.holds)))

  maximal : (InIdeal 7 2 origin f → ⊥) → InIdeal 7 2 (f ∷ origin) one
  maximal outside = go (value f % 7) refl
    where
      go : (r : ℕ) → value f % 7 ≡ r → InIdeal 7 2 (f ∷ origin) one
      go zero e = absurd (outside (vanishing_member f h e))
      go (suc r) e =
          let low : suc r < 7 = subst (λ n. n < 7) e (mod-lt (value f) (omega arith)) in
          let i = inverse 7 seven_is_prime (suc r) (omega arith) low in
          one_member i.0 (ap (λ (n : ℕ). (n * i.0) % 7) e ∙ i.1)

one_not_member : InIdeal 7 2 origin one → ⊥
unfolding weigh at_one is_zero
one_not_member i = let e : 1 ≡ 0 = vanishes_member 7 2 origin one origin_vanishes i in absurd (omega (arith, e))

pub origin_is_point : OriginIsPoint
unfolding weigh at_one is_zero
origin_is_point = record {
  reduced = reduced;
  holds_ideal =
      All-cons (InIdeal 7 2 origin) (term_of 1 3 0 ∷ term_of 6 0 2 ∷ []) []
      (vanishing_member (term_of 1 3 0 ∷ term_of 6 0 2 ∷ []) curve_poly refl) (All-nil (InIdeal 7 2 origin));
  holds_denominator = vanishing_member (term_of 1 2 0 ∷ []) (poly_of_term 1 2 0 (omega arith) (omega arith)) refl;
  proper = one_not_member;
  maximal = maximal;
}
  where
    curve_poly : IsPoly 7 2 (term_of 1 3 0 ∷ term_of 6 0 2 ∷ [])
    curve_poly = record {
      canonical = (omega arith, omega arith, refl, (omega arith, omega arith, tt, tt));
      affine = ((poly_of_term 1 3 0 (omega arith) (omega arith)).affine.0, ((poly_of_term 6 0 2 (omega arith) (omega arith)).affine.0, tt));
    }

-- ---- the degree

spanned : (f : List Term) → IsPoly 7 2 f → IsSpanned 7 2 origin (one ∷ []) f
unfolding weigh
spanned f h = record {
  residues = (value f % 7) ∷ [];
  below = All-cons (λ c. c < 7) (value f % 7) [] (mod-lt (value f) (omega arith)) (All-nil (λ c. c < 7));
  as_many = refl;
  close = subst (InIdeal 7 2 origin) (sym same) (s f h).holds;
}
  where
    q : List Term
    q = (s f h).member

    c : List Term
    c = number_combination 7 ((value f % 7) ∷ []) (one ∷ [])

    weigh-c : (χ : Monomial → ℕ) → weigh χ c % 7 ≡ (value f * χ unit) % 7
    weigh-c χ =
        let k : 1 * χ unit + 0 ≡ χ unit = omega arith in
        let o : weigh χ (multiple 7 (value f % 7) one) + 0 ≡ weigh χ (multiple 7 (value f % 7) one) = omega arith in
        weigh-normal 7 χ (multiple 7 (value f % 7) one ++ [])
        ∙ ap (λ (n : ℕ). n % 7) (weigh-append χ (multiple 7 (value f % 7) one) [] ∙ o)
        ∙ weigh-normal 7 χ (scaled (value f % 7) one)
        ∙ ap (λ (n : ℕ). n % 7) (weigh-scaled χ (value f % 7) one ∙ ap (λ (n : ℕ). value f % 7 * n) k)
        ∙ mul-mod_first (value f) (χ unit) 7

    turn : (a b : ℕ) → (a + b) + 6 * b ≡ 7 * b + a
    turn a b = omega arith

    alike : Alike 7 (f ++ multiple 7 6 c) q
    alike χ =
        ap (λ (n : ℕ). n % 7) (weigh-append χ f (multiple 7 6 c))
        ∙ mod_plus 7 (weigh χ f) (weigh χ q + value f * χ unit) (weigh χ (multiple 7 6 c)) (6 * (value f * χ unit))
        ((s f h).alike χ ∙ ap (λ (n : ℕ). n % 7) (weigh-constant χ q (value f)))
        (weigh-normal 7 χ (scaled 6 c)
        ∙ ap (λ (n : ℕ). n % 7) (weigh-scaled χ 6 c)
        ∙ sym (mul-mod_second 6 (weigh χ c) 7)
        ∙ ap (λ (n : ℕ). (6 * n) % 7) (weigh-c χ)
        ∙ mul-mod_second 6 (value f * χ unit) 7)
        ∙ ap (λ (n : ℕ). n % 7) (turn (weigh χ q) (value f * χ unit))
        ∙ mul-add-mod_self_left 7 (value f * χ unit) (weigh χ q)

    same : sub 7 f c ≡ q
    same = normal_ext 7 (f ++ multiple 7 6 c) q alike ∙ canonical_same 7 q (member_poly f (s f h)).canonical

nothing_spans : (us : List (List Term)) → length us < 1 → Spans 7 2 origin us → ⊥
nothing_spans [] l a = go (a.each one (poly_one 7 2 (omega arith)))
  where
    go : IsSpanned 7 2 origin [] one → ⊥
    go b = none b.residues b.as_many b.close
      where
        none : (cs : List ℕ) → length cs ≡ 0 → InIdeal 7 2 origin (sub 7 one (number_combination 7 cs [])) → ⊥
        none [] e i = one_not_member i
        none (c ∷ cs) e i = absurd (omega arith)
nothing_spans (u ∷ us) l a = absurd (omega arith)

pub origin_has_degree_one : OriginHasDegreeOne
origin_has_degree_one = record {
  basis = one ∷ [];
  as_many = refl;
  spans = record { polys = All-cons (IsPoly 7 2) one [] (poly_one 7 2 (omega arith)) (All-nil (IsPoly 7 2)); each = spanned };
  least = nothing_spans;
}
