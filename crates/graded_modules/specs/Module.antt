-- The module that vectors span, and the leads of its members.
use Rattle.std.specs.Prelude.{◌≡◌, ℕ, List, ◌∷◌, length, All, Contains}
use Rattle.monomials.specs.Mono.{Monomial, Divides}
use Rattle.polys.specs.declared.term.Term.{Term}
use Rattle.polys.specs.Ideal.{combination}
use Rattle.graded_modules.specs.Vector.{IsFactor, IsUpTo, lead_mono}

-- f is a sum of multiples of the members of gs by polynomials in n variables and the homogenising one
pub record InModule (p n : ℕ) (gs : List (List Term)) (f : List Term) : Type 0 where
  pub factors : List (List Term)
  pub polys : All (IsFactor p n) factors
  pub as_many : length factors ≡ length gs
  pub combined : f ≡ combination p factors gs

-- m is the lead of a member
abbrev pub IsModuleLead : ℕ → ℕ → List (List Term) → Monomial → Type 0
IsModuleLead p n gs m = (t : Term) × (f : List Term) × InModule p n gs (t ∷ f) × (t.mono ≡ m)

-- m is the lead of a member of degree at most e
abbrev pub IsLeadUpTo : ℕ → ℕ → ℕ → List (List Term) → ℕ → Monomial → Type 0
IsLeadUpTo p n shift gs e m = (t : Term) × (f : List Term) × InModule p n gs (t ∷ f) × IsUpTo shift e (t ∷ f) × (t.mono ≡ m)

-- m is such a monomial, and no other one divides it
abbrev pub IsLeast : (Monomial → Type 0) → Monomial → Type 0
IsLeast P m = P m × ((w : Monomial) → P w → Divides w m → w ≡ m)

-- the monomial is a multiple of the lead of a member of the list
abbrev pub IsLeadMultiple : List (List Term) → Monomial → Type 0
IsLeadMultiple bs m = (b : List Term) × Contains bs b × Divides (lead_mono b) m
