-- Homogenising by a last variable, and setting it to 1 (Greuel and Pfister, section on homogenisation).
use Rattle.std.specs.Prelude.{ℕ, ◌≡◌, ◌-◌, List, length, map, slice_index, slice_set}
use Rattle.monomials.specs.Mono.{Monomial, total_degree}
use Rattle.polys.specs.declared.term.Term.{Term}
use Rattle.polys.specs.Terms.{degree_of, normal}

-- the monomial with the exponent e of the homogenising variable
abbrev pub with_hom : ℕ → Monomial → Monomial
with_hom e m = record { exponents = slice_set m.exponents 6 e; component = m.component }

-- a monomial of seven exponents without the homogenising variable
pub record IsUnlifted (m : Monomial) : Type 0 where
  pub seven : length m.exponents ≡ 7
  pub none : slice_index m.exponents 6 ≡ 0

-- each term is lifted to the degree e by a power of the homogenising variable
abbrev pub homogenised_to : ℕ → List Term → List Term
homogenised_to e f = map (λ t. record { coeff = t.coeff; mono = with_hom (e - total_degree t.mono.exponents) t.mono }) f

-- so that each term has the degree of f
abbrev pub homogenised : List Term → List Term
homogenised f = homogenised_to (degree_of f) f

-- the terms with the homogenising exponent 0
abbrev pub without_hom : List Term → List Term
without_hom f = map (λ t. record { coeff = t.coeff; mono = with_hom 0 t.mono }) f

-- the homogenising variable becomes 1
abbrev pub dehomogenised : ℕ → List Term → List Term
dehomogenised p f = normal p (without_hom f)

-- the same of each polynomial of a list
abbrev pub all_homogenised : List (List Term) → List (List Term)
all_homogenised fs = map homogenised fs

abbrev pub all_dehomogenised : ℕ → List (List Term) → List (List Term)
all_dehomogenised p gs = map (dehomogenised p) gs
