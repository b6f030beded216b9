-- Vectors as rows of coefficients over a falling list of monomials.
use Rattle.std.specs.Prelude.{◌≡◌, ℕ, List, [], ◌∷◌}
use Rattle.std.specs.declared.cmp.Ordering.TheVariants.{Greater}
use Rattle.monomials.specs.Mono.{Monomial, cmp_dp}
use Rattle.polys.specs.declared.term.Term.{Term}

-- m is greater than each monomial of the list
abbrev pub IsAbove : Monomial → List Monomial → Type 0
IsAbove m [] = Unit {0}
IsAbove m (w ∷ ms) = (cmp_dp m w ≡ Greater) × IsAbove m ms

-- each monomial is greater than all later ones
abbrev pub AreFalling : List Monomial → Type 0
AreFalling [] = Unit {0}
AreFalling (m ∷ ms) = IsAbove m ms × AreFalling ms

-- the terms of a row: the coefficient and the monomial of each column
abbrev pub row_terms : List Monomial → List ℕ → List Term
row_terms [] cs = []
row_terms (m ∷ ms) [] = []
row_terms (m ∷ ms) (c ∷ cs) = record { coeff = c; mono = m } ∷ row_terms ms cs
