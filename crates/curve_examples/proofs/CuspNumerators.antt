-- The numerators over d on the cusp: y^2, x y, x^2 are the reduced basis of those whose fraction is local at the origin.
use Rattle.std.proofs.Common.{◌≡◌, ◌⊎◌, inl, inr, ℕ, ◌+◌, ◌*◌, ◌%◌, ◌<◌, ◌≤◌, zero, suc, List, [], ◌∷◌, get_or, refl, sym, ap, ◌∙◌, subst, arith}
use Rattle.std.specs.List.{All, AllPairs, Contains}
use Rattle.std.specs.declared.cmp.Ordering.{Ordering}
use Rattle.std.specs.declared.cmp.Ordering.TheVariants.{Less, Equal, Greater}
use Rattle.std.proofs.lemmas.List.Elements.{All-nil, All-cons}
use Rattle.monomials.specs.Mono.{Monomial, Divides, cmp_dp}
use Rattle.monomials.proofs.Exponents.{zeros_at}
use Rattle.monomials.proofs.Order.{same_dp}
use Rattle.polys.specs.declared.term.Term.{Term}
use Rattle.polys.specs.Terms.{IsPoly, IsMonic}
use Rattle.polys.specs.Ideal.{InIdeal}
use Rattle.polys.specs.Reduced.{Reduced, leads, lower_monos, IsLead, IsMinimalLead}
use Rattle.polys.proofs.Weights.{weigh, canon, same, tie, at_head}
use Rattle.ideal_laws.proofs.Ideals.{in_head, in_more, in_poly}
use Rattle.ideal_laws.proofs.Unique.{contains_head, contains_tail, contains_cases, contains_none}
use Rattle.curve_model.specs.Examples.{term_of, conductor}
use Rattle.curve_model.proofs.Cusp.{poly_of_term}
use Rattle.curve_model.proofs.TwoVariables.{mono_of, exponents_of}
use Rattle.curve_model.proofs.Tests.{Passes, test_member}

abbrev y2 : List Term
y2 = term_of 1 0 2 ∷ []

abbrev xy : List Term
xy = term_of 1 1 1 ∷ []

abbrev x2 : List Term
x2 = term_of 1 2 0 ∷ []

y2_poly : IsPoly 7 2 y2
y2_poly = poly_of_term 1 0 2 (omega arith) (omega arith)

xy_poly : IsPoly 7 2 xy
xy_poly = poly_of_term 1 1 1 (omega arith) (omega arith)

x2_poly : IsPoly 7 2 x2
x2_poly = poly_of_term 1 2 0 (omega arith) (omega arith)

pub conductor_polys : All (IsPoly 7 2) conductor
conductor_polys = All-cons (IsPoly 7 2) y2 (xy ∷ x2 ∷ []) y2_poly (All-cons (IsPoly 7 2) xy (x2 ∷ []) xy_poly (All-cons (IsPoly 7 2) x2 [] x2_poly (All-nil (IsPoly 7 2))))

pub holds_y2 : InIdeal 7 2 conductor y2
holds_y2 = in_head 7 2 y2 (xy ∷ x2 ∷ []) (omega arith) y2_poly

pub holds_xy : InIdeal 7 2 conductor xy
holds_xy = in_more 7 2 y2 (xy ∷ x2 ∷ []) xy (in_head 7 2 xy (x2 ∷ []) (omega arith) xy_poly)

pub holds_x2 : InIdeal 7 2 conductor x2
holds_x2 = in_more 7 2 y2 (xy ∷ x2 ∷ []) x2 (in_more 7 2 xy (x2 ∷ []) x2 (in_head 7 2 x2 [] (omega arith) x2_poly))

-- a weight that is 0 on the monomials of degree 2 and more passes
abbrev VanishesFromTwoOn : (Monomial → ℕ) → Type 0
VanishesFromTwoOn χ = (i j : ℕ) → 2 ≤ i + j → χ (mono_of i j) ≡ 0

pub all_pass : (χ : Monomial → ℕ) → VanishesFromTwoOn χ → All (Passes χ) conductor
unfolding weigh
all_pass χ h =
    All-cons (Passes χ) y2 (xy ∷ x2 ∷ []) (λ i j. ap (λ (n : ℕ). (1 * n + 0) % 7) (h (i + 0) (j + 2) (omega arith)))
    (All-cons (Passes χ) xy (x2 ∷ []) (λ i j. ap (λ (n : ℕ). (1 * n + 0) % 7) (h (i + 1) (j + 1) (omega arith)))
    (All-cons (Passes χ) x2 [] (λ i j. ap (λ (n : ℕ). (1 * n + 0) % 7) (h (i + 2) (j + 0) (omega arith))) (All-nil (Passes χ))))

pub low_of_member : (χ : Monomial → ℕ) (f : List Term) → VanishesFromTwoOn χ → InIdeal 7 2 conductor f → weigh χ f % 7 ≡ 0
low_of_member χ f h i = test_member χ conductor f (all_pass χ h) i

-- ---- leads have degree 2 at least

first_is : (i j a b : ℕ) → mono_of i j ≡ mono_of a b → (i ≡ a) × (j ≡ b)
first_is i j a b e = (ap (λ m. get_or m.exponents 0 0) e, ap (λ m. get_or m.exponents 1 0) e)

no_low_lead : (t : Term) (f : List Term) (a b : ℕ) → t.mono ≡ mono_of a b → a + b < 2 → InIdeal 7 2 conductor (t ∷ f) → ⊥
no_low_lead t f a b e l i =
    let h = in_poly 7 2 conductor (t ∷ f) (omega arith) conductor_polys i in
    let c : t.coeff ≡ 0 = sym (at_head 7 t f (canon 7 (t ∷ f) h.canonical)) ∙ low_of_member (same t.mono) (t ∷ f) off i in
    let pos = h.canonical.0 in
    absurd (omega arith)
  where
    off : VanishesFromTwoOn (same t.mono)
    off x y q = go (cmp_dp (mono_of x y) t.mono) refl
      where
        go : (r : Ordering) → cmp_dp (mono_of x y) t.mono ≡ r → tie r ≡ 0
        go Less w = refl
        go Greater w = refl
        go Equal w = let s = first_is x y a b (same_dp (mono_of x y) t.mono w ∙ e) in absurd (omega arith)

lead_exponents : (m : Monomial) → IsLead 7 2 conductor m → (i : ℕ) × (j : ℕ) × (m ≡ mono_of i j) × (2 ≤ i + j)
lead_exponents m (t, f, i, e) = go (exponents_of t.mono (in_poly 7 2 conductor (t ∷ f) (omega arith) conductor_polys i).affine.0)
  where
    go : (a : ℕ) × (b : ℕ) × (t.mono ≡ mono_of a b) → (a : ℕ) × (b : ℕ) × (m ≡ mono_of a b) × (2 ≤ a + b)
    go (zero, zero, q) = absurd (no_low_lead t f 0 0 q (omega arith) i)
    go (suc zero, zero, q) = absurd (no_low_lead t f 1 0 q (omega arith) i)
    go (zero, suc zero, q) = absurd (no_low_lead t f 0 1 q (omega arith) i)
    go (suc zero, suc b, q) = (1, suc b, sym e ∙ q, omega arith)
    go (suc (suc a), b, q) = (suc (suc a), b, sym e ∙ q, omega arith)
    go (zero, suc (suc b), q) = (0, suc (suc b), sym e ∙ q, omega arith)

lead_y2 : IsLead 7 2 conductor (mono_of 0 2)
lead_y2 = (term_of 1 0 2, [], holds_y2, refl)

lead_xy : IsLead 7 2 conductor (mono_of 1 1)
lead_xy = (term_of 1 1 1, [], holds_xy, refl)

lead_x2 : IsLead 7 2 conductor (mono_of 2 0)
lead_x2 = (term_of 1 2 0, [], holds_x2, refl)

-- a lead of degree 2 is minimal
minimal_of : (a b : ℕ) → a + b ≡ 2 → IsLead 7 2 conductor (mono_of a b) → IsMinimalLead 7 2 conductor (mono_of a b)
minimal_of a b d l = (l, λ w k v. go (lead_exponents w k) v)
  where
    go : {w : Monomial} → (i : ℕ) × (j : ℕ) × (w ≡ mono_of i j) × (2 ≤ i + j) → Divides w (mono_of a b) → w ≡ mono_of a b
    go {w = w} (i, j, e, pos) v =
        let p : i ≤ a = subst (λ m. get_or m.exponents 0 0 ≤ a) e (v.none_greater 0) in
        let q : j ≤ b = subst (λ m. get_or m.exponents 1 0 ≤ b) e (v.none_greater 1) in
        let ia : i ≡ a = omega arith in
        let jb : j ≡ b = omega arith in
        e ∙ (λ k. mono_of (ia k) (jb k))

divides_of : (a b i j : ℕ) → a ≤ i → b ≤ j → Divides (mono_of a b) (mono_of i j)
divides_of a b i j l m = record { same = refl; none_greater = go }
  where
    go : (k : ℕ) → get_or (mono_of a b).exponents k 0 ≤ get_or (mono_of i j).exponents k 0
    go zero = l
    go (suc zero) = m
    go (suc (suc k)) = let z = zeros_at 5 k in omega arith

contains_minimal : (m : Monomial) → Contains (leads conductor) m → IsMinimalLead 7 2 conductor m
contains_minimal m c = first (contains_cases (mono_of 0 2) m (mono_of 1 1 ∷ mono_of 2 0 ∷ []) c)
  where
    third : (mono_of 2 0 ≡ m) ⊎ Contains [] m → IsMinimalLead 7 2 conductor m
    third (inl e) = subst (IsMinimalLead 7 2 conductor) e (minimal_of 2 0 refl lead_x2)
    third (inr n) = absurd (contains_none m n)

    second : (mono_of 1 1 ≡ m) ⊎ Contains (mono_of 2 0 ∷ []) m → IsMinimalLead 7 2 conductor m
    second (inl e) = subst (IsMinimalLead 7 2 conductor) e (minimal_of 1 1 refl lead_xy)
    second (inr n) = third (contains_cases (mono_of 2 0) m [] n)

    first : (mono_of 0 2 ≡ m) ⊎ Contains (mono_of 1 1 ∷ mono_of 2 0 ∷ []) m → IsMinimalLead 7 2 conductor m
    first (inl e) = subst (IsMinimalLead 7 2 conductor) e (minimal_of 0 2 refl lead_y2)
    first (inr n) = second (contains_cases (mono_of 1 1) m (mono_of 2 0 ∷ []) n)

minimal_contains : (m : Monomial) → IsMinimalLead 7 2 conductor m → Contains (leads conductor) m
minimal_contains m h = go (lead_exponents m h.0)
  where
    at_y2 : mono_of 0 2 ≡ m → Contains (leads conductor) m
    at_y2 e = subst (Contains (leads conductor)) e (contains_head (mono_of 0 2) (mono_of 1 1 ∷ mono_of 2 0 ∷ []))

    at_xy : mono_of 1 1 ≡ m → Contains (leads conductor) m
    at_xy e = contains_tail (mono_of 0 2) m (mono_of 1 1 ∷ mono_of 2 0 ∷ []) (subst (Contains (mono_of 1 1 ∷ mono_of 2 0 ∷ [])) e (contains_head (mono_of 1 1) (mono_of 2 0 ∷ [])))

    at_x2 : mono_of 2 0 ≡ m → Contains (leads conductor) m
    at_x2 e = contains_tail (mono_of 0 2) m (mono_of 1 1 ∷ mono_of 2 0 ∷ []) (contains_tail (mono_of 1 1) m (mono_of 2 0 ∷ []) (subst (Contains (mono_of 2 0 ∷ [])) e (contains_head (mono_of 2 0) [])))

    go : (i : ℕ) × (j : ℕ) × (m ≡ mono_of i j) × (2 ≤ i + j) → Contains (leads conductor) m
    go (zero, zero, e, pos) = absurd (omega arith)
    go (zero, suc zero, e, pos) = absurd (omega arith)
    go (suc zero, zero, e, pos) = absurd (omega arith)
    go (zero, suc (suc j), e, pos) = at_y2 (h.1 (mono_of 0 2) lead_y2 (subst (Divides (mono_of 0 2)) (sym e) (divides_of 0 2 0 (suc (suc j)) (omega arith) (omega arith))))
    go (suc zero, suc j, e, pos) = at_xy (h.1 (mono_of 1 1) lead_xy (subst (Divides (mono_of 1 1)) (sym e) (divides_of 1 1 1 (suc j) (omega arith) (omega arith))))
    go (suc (suc i), j, e, pos) = at_x2 (h.1 (mono_of 2 0) lead_x2 (subst (Divides (mono_of 2 0)) (sym e) (divides_of 2 0 (suc (suc i)) j (omega arith) (omega arith))))

rising : AllPairs (λ m w. cmp_dp m w ≡ Less) (leads conductor)
rising zero zero d a b = absurd (omega arith)
rising zero (suc zero) d a b = refl
rising zero (suc (suc zero)) d a b = refl
rising zero (suc (suc (suc j))) d a b = absurd (omega arith)
rising (suc zero) zero d a b = absurd (omega arith)
rising (suc zero) (suc zero) d a b = absurd (omega arith)
rising (suc zero) (suc (suc zero)) d a b = refl
rising (suc zero) (suc (suc (suc j))) d a b = absurd (omega arith)
rising (suc (suc i)) zero d a b = absurd (omega arith)
rising (suc (suc i)) (suc zero) d a b = absurd (omega arith)
rising (suc (suc i)) (suc (suc zero)) d a b = absurd (omega arith)
rising (suc (suc i)) (suc (suc (suc j))) d a b = absurd (omega arith)

nothing_lower : (q : List Term) → Contains conductor q → (m : Monomial) → Contains (lower_monos q) m → IsLead 7 2 conductor m → ⊥
nothing_lower q c m k l = first (contains_cases y2 q (xy ∷ x2 ∷ []) c)
  where
    third : (x2 ≡ q) ⊎ Contains [] q → ⊥
    third (inl e) = contains_none m (subst (λ w. Contains (lower_monos w) m) (sym e) k)
    third (inr n) = contains_none q n

    second : (xy ≡ q) ⊎ Contains (x2 ∷ []) q → ⊥
    second (inl e) = contains_none m (subst (λ w. Contains (lower_monos w) m) (sym e) k)
    second (inr n) = third (contains_cases x2 q [] n)

    first : (y2 ≡ q) ⊎ Contains (xy ∷ x2 ∷ []) q → ⊥
    first (inl e) = contains_none m (subst (λ w. Contains (lower_monos w) m) (sym e) k)
    first (inr n) = second (contains_cases xy q (x2 ∷ []) n)

pub conductor_is_reduced : Reduced 7 2 conductor
conductor_is_reduced = record {
  polys = conductor_polys;
  monic = All-cons IsMonic y2 (xy ∷ x2 ∷ []) refl (All-cons IsMonic xy (x2 ∷ []) refl (All-cons IsMonic x2 [] refl (All-nil IsMonic)));
  rising = rising;
  minimal = λ m. (contains_minimal m, minimal_contains m);
  lower = nothing_lower;
}
