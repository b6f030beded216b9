-- Divisors and least common multiples.
use Rattle.std.proofs.Common.{◌≡◌, ℕ, ◌+◌, ◌-◌, ◌≤◌, zero, suc, List, [], ◌∷◌, length, get_or, max, refl, sym, ◌∙◌, subst, arith}
use Rattle.monomials.specs.Mono.{Monomial, pointwise, times, Divides}
use Rattle.monomials.specs.Laws.{DividesItsMultiples, LeastCommonMultiple}
use Rattle.monomials.proofs.Exponents.{plus}

-- no entry of a is greater than that of b
abbrev pub Under : List ℕ → List ℕ → Type 0
Under a b = (i : ℕ) → get_or a i 0 ≤ get_or b i 0

under_plus : (a c : List ℕ) → Under a (plus a c)
under_plus [] c i = omega arith
under_plus (x ∷ a) [] i = omega arith
under_plus (x ∷ a) (y ∷ c) zero = omega arith
under_plus (x ∷ a) (y ∷ c) (suc i) = under_plus a c i

pub divides_self : (m : Monomial) → Divides m m
divides_self m = record { same = refl; none_greater = λ i. omega arith }

-- what is missing from a to b
missing : List ℕ → List ℕ → List ℕ
missing [] b = []
missing (x ∷ a) [] = []
missing (x ∷ a) (y ∷ b) = (y - x) ∷ missing a b

length-missing : (a b : List ℕ) → length a ≡ length b → length a ≡ length (missing a b)
unfolding missing
length-missing [] b e = refl
length-missing (x ∷ a) [] e = absurd (omega arith)
length-missing (x ∷ a) (y ∷ b) e = let ih = length-missing a b (omega arith) in omega arith

plus-missing : (a b : List ℕ) → length a ≡ length b → Under a b → b ≡ plus a (missing a b)
unfolding missing
plus-missing [] [] e h = refl
plus-missing [] (y ∷ b) e h = absurd (omega arith)
plus-missing (x ∷ a) [] e h = absurd (omega arith)
plus-missing (x ∷ a) (y ∷ b) e h =
    let first : x ≤ y = h 0 in
    let s : y ≡ x + (y - x) = omega arith in
    λ i. s i ∷ plus-missing a b (omega arith) (λ k. h (suc k)) i

factor : (a b : Monomial) → length a.exponents ≡ length b.exponents → Divides a b
    → (c : Monomial) × (length a.exponents ≡ length c.exponents) × (c.component ≡ 0) × (b ≡ times a c)
factor a b e d =
    let s : b.component ≡ a.component + 0 = let h = d.same in omega arith in
    let x = plus-missing a.exponents b.exponents e d.none_greater in (
      record { exponents = missing a.exponents b.exponents; component = 0 },
      length-missing a.exponents b.exponents e,
      refl,
      λ i. record { exponents = x i; component = s i },
    )

multiple : (a b c : Monomial) → c.component ≡ 0 → b ≡ times a c → Divides a b
multiple a b c z h =
    subst (Divides a) (sym h) (record { same = let n : a.component ≡ a.component + c.component = omega arith in n; none_greater = under_plus a.exponents c.exponents })

pub divides_law : DividesItsMultiples
divides_law a b e = (factor a b e, λ h. multiple a b h.0 h.2 h.3)

-- ---- least common multiples

under_left : (a b : List ℕ) → Under a (pointwise max a b)
under_left [] b i = omega arith
under_left (x ∷ a) [] i = omega arith
under_left (x ∷ a) (y ∷ b) zero = omega arith
under_left (x ∷ a) (y ∷ b) (suc i) = under_left a b i

under_right : (a b : List ℕ) → Under b (pointwise max a b)
under_right [] b i = omega arith
under_right (x ∷ a) [] i = omega arith
under_right (x ∷ a) (y ∷ b) zero = omega arith
under_right (x ∷ a) (y ∷ b) (suc i) = under_right a b i

under_least : (a b c : List ℕ) → Under a c → Under b c → Under (pointwise max a b) c
under_least [] b c h k i = k i
under_least (x ∷ a) [] c h k i = h i
under_least (x ∷ a) (y ∷ b) [] h k zero = let p = h 0 in let q = k 0 in omega arith
under_least (x ∷ a) (y ∷ b) [] h k (suc i) = under_least a b [] (λ j. h (suc j)) (λ j. k (suc j)) i
under_least (x ∷ a) (y ∷ b) (z ∷ c) h k zero = let p = h 0 in let q = k 0 in omega arith
under_least (x ∷ a) (y ∷ b) (z ∷ c) h k (suc i) = under_least a b c (λ j. h (suc j)) (λ j. k (suc j)) i

pub lcm_law : LeastCommonMultiple
lcm_law = record {
  left = λ a b e s. record { same = refl; none_greater = under_left a.exponents b.exponents };
  right = λ a b e s. record { same = sym s; none_greater = under_right a.exponents b.exponents };
  least = λ a b c e h k. record { same = h.same; none_greater = under_least a.exponents b.exponents c.exponents h.none_greater k.none_greater };
}

-- ---- divisors of divisors

pub divides_trans : (a b c : Monomial) → Divides a b → Divides b c → Divides a c
divides_trans a b c h k = record { same = h.same ∙ k.same; none_greater = λ i. let x = h.none_greater i in let y = k.none_greater i in omega arith }

same_places : (a b : List ℕ) → length a ≡ length b → Under a b → Under b a → a ≡ b
same_places [] [] l h k = refl
same_places [] (y ∷ b) l h k = absurd (omega arith)
same_places (x ∷ a) [] l h k = absurd (omega arith)
same_places (x ∷ a) (y ∷ b) l h k =
    let p : x ≤ y = h 0 in
    let q : y ≤ x = k 0 in
    let e : x ≡ y = omega arith in
    λ i. e i ∷ same_places a b (omega arith) (λ j. h (suc j)) (λ j. k (suc j)) i

-- monomials that divide each other are one
pub divides_both : (a b : Monomial) → length a.exponents ≡ length b.exponents → Divides a b → Divides b a → a ≡ b
divides_both a b l h k =
    let e = same_places a.exponents b.exponents l h.none_greater k.none_greater in
    λ i. record { exponents = e i; component = h.same i }
