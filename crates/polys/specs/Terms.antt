-- Polynomials modulo p as lists of terms, and their operations.
use Rattle.std.specs.Prelude.{◌≡◌, ℕ, zero, suc, ◌+◌, ◌-◌, ◌*◌, ◌%◌, ◌<◌, List, [], ◌∷◌, ◌++◌, map, length, max, ◌==◌, if◌then◌else◌, slice_index, slice_set, Option, None, Some}
use Rattle.std.specs.Ordering.{eq_by_cmp}
use Rattle.std.specs.declared.cmp.Ordering.{Ordering}
use Rattle.std.specs.declared.cmp.Ordering.TheVariants.{Less, Equal, Greater}
use Rattle.monomials.specs.Mono.{Monomial, times, unit, total_degree, cmp_dp}
use Rattle.polys.specs.declared.term.Term.{Term}

-- the coefficient at m of the sum of the terms
abbrev pub coefficient : List Term → Monomial → ℕ
coefficient [] m = 0
coefficient (t ∷ f) m = (if eq_by_cmp cmp_dp t.mono m then t.coeff else 0) + coefficient f m

-- ---- one list for each polynomial

-- m is greater than the first monomial
abbrev pub Under : Monomial → List Term → Type 0
Under m [] = Unit {0}
Under m (u ∷ f) = cmp_dp m u.mono ≡ Greater

-- the monomials fall, and the coefficients are from 1 to p - 1
abbrev pub IsCanonical : ℕ → List Term → Type 0
IsCanonical p [] = Unit {0}
IsCanonical p (t ∷ f) = (0 < t.coeff) × (t.coeff < p) × Under t.mono f × IsCanonical p f

-- P holds of each monomial
abbrev pub EachMono : (Monomial → Type 0) → List Term → Type 0
EachMono P [] = Unit {0}
EachMono P (t ∷ f) = P t.mono × EachMono P f

-- only the first n exponents may be above 0
abbrev pub OnlyFirst : ℕ → List ℕ → Type 0
OnlyFirst n [] = Unit {0}
OnlyFirst zero (x ∷ a) = (x ≡ 0) × OnlyFirst zero a
OnlyFirst (suc n) (x ∷ a) = OnlyFirst n a

-- for n up to 6, a monomial in the first n of the six variables, without the homogenising one and of component 0
pub record IsAffine (n : ℕ) (m : Monomial) : Type 0 where
  pub seven : length m.exponents ≡ 7
  pub first : OnlyFirst n m.exponents
  pub plain : m.component ≡ 0

-- for n up to 6, a polynomial modulo p in the first n variables; n = 7 admits the homogenising variable too
pub record IsPoly (p n : ℕ) (f : List Term) : Type 0 where
  pub canonical : IsCanonical p f
  pub affine : EachMono (IsAffine n) f

-- ---- the list of a sum of terms

-- the term of c at m before f, or f alone if c is 0
abbrev pub keep : ℕ → Monomial → List Term → List Term
keep c m f = if c == 0 then f else (record { coeff = c; mono = m } ∷ f)

-- t added to u and f, by the order of their monomials
abbrev pub put_by : ℕ → Term → Term → List Term → List Term → Ordering → List Term
put_by p t u f later Greater = keep (t.coeff % p) t.mono (u ∷ f)
put_by p t u f later Equal = keep ((t.coeff + u.coeff) % p) t.mono f
put_by p t u f later Less = u ∷ later

-- t added to a polynomial
abbrev pub put : ℕ → Term → List Term → List Term
put p t [] = keep (t.coeff % p) t.mono []
put p t (u ∷ f) = put_by p t u f (put p t f) (cmp_dp t.mono u.mono)

-- the polynomial that a list of terms sums to
abbrev pub normal : ℕ → List Term → List Term
normal p [] = []
normal p (t ∷ f) = put p t (normal p f)

-- ---- sums and products

-- the sum
abbrev pub add : ℕ → List Term → List Term → List Term
add p f g = normal p (f ++ g)

-- c times each term
abbrev pub scaled : ℕ → List Term → List Term
scaled c f = map (λ t. record { coeff = c * t.coeff; mono = t.mono }) f

-- the multiple by the number c
abbrev pub multiple : ℕ → ℕ → List Term → List Term
multiple p c f = normal p (scaled c f)

-- the difference
abbrev pub sub : ℕ → List Term → List Term → List Term
sub p f g = add p f (multiple p (p - 1) g)

-- t times each term
abbrev pub scale : Term → List Term → List Term
scale t g = map (λ u. record { coeff = t.coeff * u.coeff; mono = times t.mono u.mono }) g

-- each term of f times each term of g
abbrev pub products : List Term → List Term → List Term
products [] g = []
products (t ∷ f) g = scale t g ++ products f g

-- the product
abbrev pub mul : ℕ → List Term → List Term → List Term
mul p f g = normal p (products f g)

-- the polynomial 1
abbrev pub one : List Term
one = record { coeff = 1; mono = unit } ∷ []

-- the power with the exponent n
abbrev pub power : ℕ → List Term → ℕ → List Term
power p f zero = one
power p f (suc n) = mul p f (power p f n)

-- the product of a list of polynomials
abbrev pub product : ℕ → List (List Term) → List Term
product p [] = one
product p (f ∷ fs) = mul p f (product p fs)

-- e x^(e-1) for the exponent e of the variable v, times all else
abbrev pub derived : ℕ → Term → Term
derived v t = record {
  coeff = t.coeff * slice_index t.mono.exponents v;
  mono = record { exponents = slice_set t.mono.exponents v (slice_index t.mono.exponents v - 1); component = t.mono.component };
}

-- the partial derivative by the variable v
abbrev pub derivative : ℕ → ℕ → List Term → List Term
derivative p v f = normal p (map (derived v) f)

-- ---- leads and degrees

-- the first term, which in a polynomial is the one with the greatest monomial
abbrev pub lead : List Term → Option Term
lead [] = None
lead (t ∷ f) = Some t

-- the lead has the coefficient 1
abbrev pub IsMonic : List Term → Type 0
IsMonic [] = ⊥
IsMonic (t ∷ f) = t.coeff ≡ 1

-- g is the monic multiple of f by a residue; the one of 0 is 0
abbrev pub IsMonicOf : ℕ → List Term → List Term → Type 0
IsMonicOf p [] g = g ≡ []
IsMonicOf p (t ∷ f) g = IsMonic g × ((c : ℕ) × (c < p) × (g ≡ multiple p c (t ∷ f)))

-- the greatest degree of a term, and 0 for the polynomial 0
abbrev pub degree_of : List Term → ℕ
degree_of [] = 0
degree_of (t ∷ f) = max (total_degree t.mono.exponents) (degree_of f)
