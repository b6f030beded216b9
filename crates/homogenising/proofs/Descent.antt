-- What holds of a monomial where it holds of all smaller ones holds of each: dp has no endless descent.
use Rattle.std.proofs.Common.{◌≡◌, ℕ, ◌+◌, ◌≤◌, ◌<◌, zero, suc, List, [], ◌∷◌, length, refl, sym, ap, ◌∙◌, subst, arith}
use Rattle.std.specs.declared.cmp.Ordering.{Ordering}
use Rattle.std.specs.declared.cmp.Ordering.TheVariants.{Less, Equal, Greater}
use Rattle.std.specs.Ordering.{ordering_then, nat_cmp, MatchOrdering}
use Rattle.std.specs.Cmp.{ranks, ranked}
use Rattle.monomials.specs.Mono.{Monomial, total_degree, cmp_last, cmp_dp}
use Rattle.monomials.proofs.Last.{by_degree, by_last}
use Rattle.monomials.proofs.Order.{same_last}
use Rattle.polys.specs.Poly.{IsPlain}

-- no exponent is above E
abbrev EachAtMost : ℕ → List ℕ → Type 0
EachAtMost E [] = Unit {0}
EachAtMost E (x ∷ a) = (x ≤ E) × EachAtMost E a

record IsShort (E k : ℕ) (a : List ℕ) : Type 0 where
  as_many : length a ≡ k
  each : EachAtMost E a

-- for the lists of k numbers up to E, by the last place first
abbrev Descends : ℕ → ℕ → (List ℕ → Type 0) → Type 0
Descends E k P = (a : List ℕ) → IsShort E k a → ((b : List ℕ) → IsShort E k b → cmp_last b a ≡ Less → P b) → P a

-- a list below x and a has a lower tail, or the same tail and a greater first number
below_place : (E k x : ℕ) (P : List ℕ → Type 0) (a : List ℕ) → length a ≡ k
    → ((b : List ℕ) → IsShort E k b → cmp_last b a ≡ Less → (y : ℕ) → y ≤ E → P (y ∷ b))
    → ((y : ℕ) → x < y → y ≤ E → P (y ∷ a)) → (b : List ℕ) → IsShort E (suc k) b → cmp_last b (x ∷ a) ≡ Less → P b
below_place E k x P a l lower same [] t e = absurd (let n = t.as_many in omega arith)
below_place E k x P a l lower same (y ∷ b) t e = go (cmp_last b a) refl e
  where
    short : IsShort E k b
    short = record { as_many = (let n = t.as_many in omega arith); each = t.each.1 }

    go : (r : Ordering) → cmp_last b a ≡ r → ordering_then r (nat_cmp x y) ≡ Less → P (y ∷ b)
    go Less q c = lower b short q y t.each.0
    go Equal q c =
        let s : b ≡ a = same_last b a q in
        let above : x < y = ranked x y Less (sym c) in
        subst (λ w. P (y ∷ w)) (sym s) (same y above t.each.0)
    go Greater q c = absurd (cc)

first_place : (E k : ℕ) (P : List ℕ → Type 0) (a : List ℕ) → IsShort E k a → Descends E (suc k) P
    → ((b : List ℕ) → IsShort E k b → cmp_last b a ≡ Less → (y : ℕ) → y ≤ E → P (y ∷ b))
    → (g x : ℕ) → x ≤ E → E ≤ x + g → P (x ∷ a)
first_place E k P a s step lower zero x h l =
    step (x ∷ a) (record { as_many = (let n = s.as_many in omega arith); each = (h, s.each) })
    (below_place E k x P a s.as_many lower (λ y q r. absurd (omega arith)))
first_place E k P a s step lower (suc g) x h l =
    step (x ∷ a) (record { as_many = (let n = s.as_many in omega arith); each = (h, s.each) })
    (below_place E k x P a s.as_many lower (λ y q r. first_place E k P a s step lower g y r (omega arith)))

last_descent : (E k : ℕ) (P : List ℕ → Type 0) → Descends E k P → (a : List ℕ) → IsShort E k a → P a
last_descent E zero P step [] s = step [] s (λ b t e. nothing b t e)
  where
    nothing : (b : List ℕ) → IsShort E zero b → cmp_last b [] ≡ Less → P b
    nothing [] t e = absurd (cc)
    nothing (y ∷ b) t e = absurd (let n = t.as_many in omega arith)
last_descent E zero P step (x ∷ a) s = absurd (let n = s.as_many in omega arith)
last_descent E (suc k) P step [] s = absurd (let n = s.as_many in omega arith)
last_descent E (suc k) P step (x ∷ a) s =
    last_descent E k (λ a. (x : ℕ) → x ≤ E → P (x ∷ a)) (λ a t ih x h. first_place E k P a t step ih E x h (omega arith)) a
    (record { as_many = (let n = s.as_many in omega arith); each = s.each.1 }) x s.each.0

-- ---- monomials

each_at_most : (E : ℕ) (a : List ℕ) → total_degree a ≤ E → EachAtMost E a
each_at_most E [] h = tt
each_at_most E (x ∷ a) h = ((omega arith), each_at_most E a (omega arith))

-- a monomial of component 0 with seven exponents
pub record IsSeven (m : Monomial) : Type 0 where
  pub seven : length m.exponents ≡ 7
  pub plain : IsPlain m

abbrev of_exponents : List ℕ → Monomial
of_exponents a = record { exponents = a; component = 0 }

abbrev pub Step : (Monomial → Type 0) → Type 0
Step P = (m : Monomial) → IsSeven m → ((w : Monomial) → IsSeven w → cmp_dp w m ≡ Less → P w) → P m

module _ (P : Monomial → Type 0) (step : Step P) where
  -- one monomial, where it holds in lower degrees and of what is smaller in its own
  at_degree : (D : ℕ) (a : List ℕ) → total_degree a ≡ D → ((w : Monomial) → IsSeven w → total_degree w.exponents < D → P w)
      → ((b : List ℕ) → IsShort D 7 b → cmp_last b a ≡ Less → total_degree b ≡ D → P (of_exponents b))
      → (w : Monomial) → IsSeven w → cmp_dp w (of_exponents a) ≡ Less → P w
  at_degree D a d lower same w t c = go (nat_cmp (total_degree w.exponents) D) (ranks (total_degree w.exponents) D) refl
    where
      go : (r : Ordering) → MatchOrdering r (total_degree w.exponents < D) (total_degree w.exponents ≡ D) (D < total_degree w.exponents) → nat_cmp (total_degree w.exponents) D ≡ r → P w
      go Less h e = lower w t h
      go Equal h e =
          let last : cmp_last w.exponents a ≡ Less = by_last w (of_exponents a) t.plain (h ∙ sym d) ∙ c in
          let whole : of_exponents w.exponents ≡ w = (λ i. record { exponents = w.exponents; component = sym t.plain i }) in
          subst P whole (same w.exponents (record { as_many = t.seven; each = each_at_most D w.exponents (omega arith) }) last h)
      go Greater h e =
          let differ : total_degree w.exponents ≡ total_degree a → ⊥ = (λ q. absurd (omega arith)) in
          let up : nat_cmp (total_degree w.exponents) (total_degree a) ≡ Less = by_degree w (of_exponents a) t.plain differ ∙ c in
          let down : nat_cmp (total_degree w.exponents) (total_degree a) ≡ Greater = ap (nat_cmp (total_degree w.exponents)) d ∙ e in
          let no : Less ≡ Greater = sym up ∙ down in
          absurd (cc)

  in_degree : (D : ℕ) → ((w : Monomial) → IsSeven w → total_degree w.exponents < D → P w) → (a : List ℕ) → length a ≡ 7 → total_degree a ≡ D → P (of_exponents a)
  in_degree D lower a l d =
      last_descent D 7 (λ a. total_degree a ≡ D → P (of_exponents a))
      (λ a s ih d. step (of_exponents a) (record { seven = s.as_many; plain = refl }) (at_degree D a d lower (λ b t e q. ih b t e q))) a
      (record { as_many = l; each = each_at_most D a (omega arith) }) d

  up_to_degree : (D : ℕ) (w : Monomial) → IsSeven w → total_degree w.exponents < D → P w
  up_to_degree zero w t h = absurd (omega arith)
  up_to_degree (suc D) w t h = go (nat_cmp (total_degree w.exponents) D) (ranks (total_degree w.exponents) D) (up_to_degree D)
    where
      go : (r : Ordering) → MatchOrdering r (total_degree w.exponents < D) (total_degree w.exponents ≡ D) (D < total_degree w.exponents)
          → ((w : Monomial) → IsSeven w → total_degree w.exponents < D → P w) → P w
      go Less k ih = ih w t k
      go Equal k ih =
          let whole : of_exponents w.exponents ≡ w = (λ i. record { exponents = w.exponents; component = sym t.plain i }) in
          subst P whole (in_degree D ih w.exponents t.seven k)
      go Greater k ih = absurd (omega arith)

  pub descent : (m : Monomial) → IsSeven m → P m
  descent m t = up_to_degree (total_degree m.exponents + 1) m t (omega arith)
