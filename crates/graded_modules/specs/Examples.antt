-- Vectors and a module by hand: an S-vector, a shift, and the ideal of two variables.
use Rattle.std.specs.Prelude.{◌≡◌, ℕ, List, [], ◌∷◌}
use Rattle.monomials.specs.Mono.{variable}
use Rattle.polys.specs.declared.term.Term.{Term}
use Rattle.graded_modules.specs.Deep.{IsDeep}
use Rattle.graded_modules.specs.SVector.{s_vector}
use Rattle.graded_modules.specs.Bases.{HasAllLeads}
use Rattle.graded_modules.specs.Vector.{IsGenerator}

-- x and y modulo 2
abbrev pub two_variables : List (List Term)
two_variables = (record { coeff = 1; mono = variable 0 } ∷ []) ∷ (record { coeff = 1; mono = variable 1 } ∷ []) ∷ []

-- x and y have the least common multiple x y, so their ideal in F_2[x, y, h] is deep under the degree 1 and not under 2, and
-- every lead is a multiple of x or of y
pub record TwoVariables : Type 0 where
  pub deep : IsDeep 2 2 0 two_variables 1
  pub not_deep : IsDeep 2 2 0 two_variables 2 → ⊥
  pub leads : HasAllLeads 2 2 two_variables two_variables

-- the term with coefficient 1, these exponents of x, y and h, and this component
abbrev pub term_of : ℕ → ℕ → ℕ → ℕ → Term
term_of a b c k = record { coeff = 1; mono = record { exponents = a ∷ b ∷ 0 ∷ 0 ∷ 0 ∷ 0 ∷ c ∷ []; component = k } }

-- modulo 2, x^2 + y h and x y + h^2 have the S-vector y (x^2 + y h) - x (x y + h^2) = y^2 h + x h^2
abbrev pub SVectorByHand : Type 0
SVectorByHand =
    s_vector 2 (term_of 2 0 0 0 ∷ term_of 0 1 1 0 ∷ []) (term_of 1 1 0 0 ∷ term_of 0 0 2 0 ∷ []) ≡ term_of 0 2 1 0 ∷ term_of 1 0 2 0 ∷ []

-- modulo 2, the vector (x, 1) is homogeneous where the second unit vector has the degree 1, and not where it has 0
abbrev pub ShiftByHand : Type 0
ShiftByHand = IsGenerator 2 1 1 (term_of 1 0 0 0 ∷ term_of 0 0 0 1 ∷ []) × (IsGenerator 2 1 0 (term_of 1 0 0 0 ∷ term_of 0 0 0 1 ∷ []) → ⊥)
