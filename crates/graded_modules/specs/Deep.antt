-- When the bases of a graded module go above a degree. No basis is run here.
use Rattle.std.specs.Prelude.{◌≡◌, ◌≢◌, ◌⊎◌, ℕ, ◌<◌, List, ◌∷◌, Contains}
use Rattle.monomials.specs.Mono.{Monomial, common_multiple}
use Rattle.polys.specs.declared.term.Term.{Term}
use Rattle.graded_modules.specs.Vector.{degree_at}
use Rattle.graded_modules.specs.Module.{IsLeadUpTo, IsLeast}

-- some vector that is not 0 has a degree above the cap
abbrev pub HasHighVector : ℕ → List (List Term) → ℕ → Type 0
HasHighVector shift gs cap = (t : Term) × (f : List Term) × Contains gs (t ∷ f) × (cap < degree_at shift t.mono)

-- of the leads of members of degree at most the cap, two different minimal ones of one component have a least common
-- multiple of a degree above the cap
pub record HasHighPair (p n shift : ℕ) (gs : List (List Term)) (cap : ℕ) : Type 0 where
  pub first : Monomial
  pub second : Monomial
  pub first_least : IsLeast (IsLeadUpTo p n shift gs cap) first
  pub second_least : IsLeast (IsLeadUpTo p n shift gs cap) second
  pub differ : first ≢ second
  pub one_component : first.component ≡ second.component
  pub high : cap < degree_at shift (common_multiple first second)

-- homogeneous vectors are deep under the cap
abbrev pub IsDeep : ℕ → ℕ → ℕ → List (List Term) → ℕ → Type 0
IsDeep p n shift gs cap = HasHighVector shift gs cap ⊎ HasHighPair p n shift gs cap
