-- Two ideals of monomials by hand.
use Rattle.std.specs.Prelude.{ℕ, List, [], ◌∷◌, map}
use Rattle.monomials.specs.Mono.{Monomial}
use Rattle.prime_field.specs.Primes.{IsPrime}
use Rattle.polys.specs.declared.term.Term.{Term}
use Rattle.polys.specs.Ideal.{HasDim, HasInfiniteDim}
use Rattle.standard_monomials.specs.Standard.{AreStandard, polynomial_of}

-- the monomial with these exponents of x and y
abbrev pub monomial_of : ℕ → ℕ → Monomial
monomial_of a b = record { exponents = a ∷ b ∷ 0 ∷ 0 ∷ 0 ∷ 0 ∷ 0 ∷ []; component = 0 }

-- x^2, x y and y^3
abbrev pub staircase : List (List Term)
staircase = map polynomial_of (monomial_of 2 0 ∷ monomial_of 1 1 ∷ monomial_of 0 3 ∷ [])

-- modulo x^2, x y and y^3 the standard monomials are 1, x, y and y^2, and the dimension is 4
pub record StaircaseByHand : Type 0 where
  pub standard : AreStandard 2 staircase (monomial_of 0 0 ∷ monomial_of 1 0 ∷ monomial_of 0 1 ∷ monomial_of 0 2 ∷ [])
  pub dimension : (p : ℕ) → IsPrime p → HasDim p 2 staircase 4

-- modulo x y the dimension is infinite
abbrev pub CrossByHand : Type 0
CrossByHand = (p : ℕ) → IsPrime p → HasInfiniteDim p 2 (map polynomial_of (monomial_of 1 1 ∷ []))
