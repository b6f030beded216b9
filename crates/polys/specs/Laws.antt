-- Laws of polynomials modulo p, as lists of terms.
use Rattle.std.specs.Prelude.{◌≡◌, ◌⊎◌, ℕ, ◌+◌, ◌*◌, ◌%◌, ◌<◌, ◌≤◌, List, [], ◌∷◌, max, Some}
use Rattle.monomials.specs.Mono.{times}
use Rattle.prime_field.specs.Primes.{IsPrime}
use Rattle.polys.specs.declared.term.Term.{Term}
use Rattle.polys.specs.Terms.{IsPoly, add, sub, mul, one, power, lead, degree_of}

-- sums and products obey the laws of a commutative ring
pub record RingLaws : Type 0 where
  pub add_assoc : (p : ℕ) (f g h : List Term) → add p (add p f g) h ≡ add p f (add p g h)
  pub add_comm : (p : ℕ) (f g : List Term) → add p f g ≡ add p g f
  pub add_zero : (p n : ℕ) (f : List Term) → IsPoly p n f → add p f [] ≡ f
  pub sub_self : (p : ℕ) (f : List Term) → 0 < p → sub p f f ≡ []
  pub mul_assoc : (p : ℕ) (f g h : List Term) → mul p (mul p f g) h ≡ mul p f (mul p g h)
  pub mul_comm : (p : ℕ) (f g : List Term) → mul p f g ≡ mul p g f
  pub mul_one : (p n : ℕ) (f : List Term) → IsPoly p n f → mul p f one ≡ f
  pub distributes : (p : ℕ) (f g h : List Term) → mul p f (add p g h) ≡ add p (mul p f g) (mul p f h)

-- modulo a prime the lead of a product is the product of the leads, and a product is 0 only where a factor is
pub record LeadLaws : Type 0 where
  pub lead : (p n : ℕ) (t u : Term) (f g : List Term) → IsPrime p → IsPoly p n (t ∷ f) → IsPoly p n (u ∷ g)
      → lead (mul p (t ∷ f) (u ∷ g)) ≡ Some (record { coeff = (t.coeff * u.coeff) % p; mono = times t.mono u.mono })
  pub no_zero_divisors : (p n : ℕ) (f g : List Term) → IsPrime p → IsPoly p n f → IsPoly p n g → mul p f g ≡ [] → (f ≡ []) ⊎ (g ≡ [])

-- the degrees of sums, products and powers are no greater than they seem
pub record DegreeLaws : Type 0 where
  pub sum : (p : ℕ) (f g : List Term) → degree_of (add p f g) ≤ max (degree_of f) (degree_of g)
  pub product : (p : ℕ) (f g : List Term) → degree_of (mul p f g) ≤ degree_of f + degree_of g
  pub power : (p : ℕ) (f : List Term) (n : ℕ) → degree_of (power p f n) ≤ degree_of f * n
