-- Laws of the coefficients of polynomials, of ideals and of reduced bases.
use Rattle.std.specs.Prelude.{◌≡◌, ◌↔◌, ℕ, ◌+◌, ◌*◌, ◌%◌, ◌<◌, List, [], ◌∷◌, length, slice_index, if◌then◌else◌, All, Contains}
use Rattle.std.specs.Ordering.{eq_by_cmp}
use Rattle.monomials.specs.Mono.{Monomial, times, variable, cmp_dp}
use Rattle.prime_field.specs.Primes.{IsPrime}
use Rattle.polys.specs.declared.term.Term.{Term}
use Rattle.polys.specs.Terms.{coefficient, IsCanonical, IsPoly, normal, add, multiple, mul, derivative}
use Rattle.polys.specs.Ideal.{InIdeal}
use Rattle.polys.specs.Reduced.{Reduced}

-- ---- coefficients

-- the products of t's coefficient and those of g whose monomials have the product m
abbrev pub row_at : Term → List Term → Monomial → ℕ
row_at t [] m = 0
row_at t (u ∷ g) m = (if eq_by_cmp cmp_dp (times t.mono u.mono) m then t.coeff * u.coeff else 0) + row_at t g m

-- the sum of the products of coefficients over all pairs of terms whose monomials have the product m
abbrev pub pairs_at : List Term → List Term → Monomial → ℕ
pairs_at [] g m = 0
pairs_at (t ∷ f) g m = row_at t g m + pairs_at f g m

-- the coefficients of sums, products and derivatives are what they should be, and a polynomial is given by its coefficients
pub record CoefficientLaws : Type 0 where
  pub normal : (p : ℕ) (f : List Term) (m : Monomial) → coefficient (normal p f) m ≡ coefficient f m % p
  pub sum : (p : ℕ) (f g : List Term) (m : Monomial) → coefficient (add p f g) m ≡ (coefficient f m + coefficient g m) % p
  pub multiple : (p c : ℕ) (f : List Term) (m : Monomial) → coefficient (multiple p c f) m ≡ (c * coefficient f m) % p
  pub product : (p : ℕ) (f g : List Term) (m : Monomial) → coefficient (mul p f g) m ≡ pairs_at f g m % p
  pub derivative : (p n v : ℕ) (f : List Term) (m : Monomial) → v < 7 → IsPoly p n f → length m.exponents ≡ 7
      → coefficient (derivative p v f) m ≡ ((slice_index m.exponents v + 1) * coefficient f (times m (variable v))) % p
  pub same : (p : ℕ) (f g : List Term) → IsCanonical p f → IsCanonical p g → ((m : Monomial) → coefficient f m ≡ coefficient g m) → f ≡ g

-- ---- ideals

-- an ideal holds its generators, sums, and multiples by polynomials, and those of a larger list hold those of a smaller
pub record IdealLaws : Type 0 where
  pub none : (p n : ℕ) (gs : List (List Term)) → InIdeal p n gs []
  pub generator : (p n : ℕ) (gs : List (List Term)) (g : List Term) → 1 < p → All (IsPoly p n) gs → Contains gs g → InIdeal p n gs g
  pub sum : (p n : ℕ) (gs : List (List Term)) (f g : List Term) → 0 < p → InIdeal p n gs f → InIdeal p n gs g → InIdeal p n gs (add p f g)
  pub multiple : (p n : ℕ) (gs : List (List Term)) (a f : List Term) → 0 < p → IsPoly p n a → InIdeal p n gs f → InIdeal p n gs (mul p a f)
  pub larger : (p n : ℕ) (gs hs : List (List Term)) (f : List Term) → 0 < p → All (InIdeal p n hs) gs → InIdeal p n gs f → InIdeal p n hs f
  pub polys : (p n : ℕ) (gs : List (List Term)) (f : List Term) → 0 < p → All (IsPoly p n) gs → InIdeal p n gs f → IsPoly p n f

-- two reduced lists that generate one ideal are equal
abbrev pub ReducedIsUnique : Type 0
ReducedIsUnique =
    (p n : ℕ) (qs rs : List (List Term)) → IsPrime p → Reduced p n qs → Reduced p n rs
    → ((f : List Term) → IsPoly p n f → InIdeal p n qs f ↔ InIdeal p n rs f) → qs ≡ rs
