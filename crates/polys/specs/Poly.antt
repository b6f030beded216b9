-- What callers see of a polynomial of the program.
use Rattle.std.specs.Prelude.{◌≡◌, ℕ, List, [], ◌∷◌, map}
use Rattle.monomials.specs.Mono.{Monomial, IsMono}
use Rattle.polys.specs.declared.term.Term.{Term}
use Rattle.polys.specs.Terms.{IsCanonical, EachMono, add, sub, mul, power, derivative}

-- a prime and the terms modulo it
pub record Polynomial : Type 0 where
  pub prime : ℕ
  pub terms : List Term

-- the terms of each polynomial of a list
abbrev pub terms_of : List Polynomial → List (List Term)
terms_of fs = map (λ f. f.terms) fs

-- what holds of the terms of each polynomial of the program
pub record IsVector (p : ℕ) (f : List Term) : Type 0 where
  pub canonical : IsCanonical p f
  pub monos : EachMono IsMono f

-- the monomial has component 0
abbrev pub IsPlain : Monomial → Type 0
IsPlain m = m.component ≡ 0

abbrev pub sum_of : Polynomial → Polynomial → Polynomial
sum_of f g = record { prime = f.prime; terms = add f.prime f.terms g.terms }

abbrev pub difference_of : Polynomial → Polynomial → Polynomial
difference_of f g = record { prime = f.prime; terms = sub f.prime f.terms g.terms }

abbrev pub product_of : Polynomial → Polynomial → Polynomial
product_of f g = record { prime = f.prime; terms = mul f.prime f.terms g.terms }

abbrev pub term_multiple_of : Polynomial → Term → Polynomial
term_multiple_of f t = record { prime = f.prime; terms = mul f.prime f.terms (t ∷ []) }

abbrev pub power_of : Polynomial → ℕ → Polynomial
power_of f n = record { prime = f.prime; terms = power f.prime f.terms n }

abbrev pub derivative_of : Polynomial → ℕ → Polynomial
derivative_of f v = record { prime = f.prime; terms = derivative f.prime v f.terms }
