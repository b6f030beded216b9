-- The reduced basis of a graded module, as data of the program.
use Rattle.std.specs.Prelude.{◌≡◌, ℕ, ◌<◌, List, ◌∷◌, All}
use Rattle.polys.specs.declared.term.Term.{Term}
use Rattle.polys.specs.Poly.{Polynomial, terms_of}
use Rattle.homogenising.specs.Homogenised.{with_hom, dehomogenised, all_dehomogenised}
use Rattle.homogenising.specs.Laws.{IsHomogeneousPoly, HasAffineLeads}
use Rattle.polys.specs.Ideal.{InIdeal}
use Rattle.polys.specs.Reduced.{IsReducedBasis}
use Rattle.graded_modules.specs.Vector.{degree_at}
use Rattle.graded_modules.specs.Bases.{IsReduced, SpanOneModule}
use Rattle.module_basis.specs.declared.gens.Gens.{Gens}
use Rattle.module_basis.specs.Gens.{AreGens}
use Rattle.module_division.specs.Division.{IsDivisor}

-- homogeneous vectors that are the reduced basis of their module
pub record IsBasis (b : Gens) : Type 0 where
  pub gens : AreGens b
  pub reduced : IsReduced b.prime b.variables b.shift (terms_of b.vectors)
  pub divisors : All (IsDivisor b.prime) b.vectors

-- one prime, number of variables and degree of the second unit vector
pub record AreOverOneRing (a b : Gens) : Type 0 where
  pub prime : b.prime ≡ a.prime
  pub variables : b.variables ≡ a.variables
  pub shift : b.shift ≡ a.shift

-- a vector that is not 0 has a degree above the cap
abbrev pub IsHigh : ℕ → ℕ → List Term → Type 0
IsHigh shift cap v = (t : Term) × (f : List Term) × (v ≡ t ∷ f) × (cap < degree_at shift t.mono)

-- the polynomial with the homogenising variable set to 1
abbrev pub lowered_of : ℕ → Polynomial → Polynomial
lowered_of p f = record { prime = p; terms = dehomogenised p f.terms }

-- the term with the homogenising exponent 0
abbrev pub lowered : Term → Term
lowered t = record { coeff = t.coeff; mono = with_hom 0 t.mono }

-- where homogeneous polynomials span the module of the basis, ds is the reduced basis of the ideal that they generate when
-- the homogenising variable is set to 1
abbrev pub IsLoweredBasis : Gens → List (List Term) → Type 0
IsLoweredBasis b ds =
    (gs : List (List Term)) → All (IsHomogeneousPoly b.prime b.variables) gs → SpanOneModule b.prime b.variables gs (terms_of b.vectors)
    → IsReducedBasis b.prime b.variables (InIdeal b.prime b.variables (all_dehomogenised b.prime gs)) ds

-- and the lead of each member of this ideal is a multiple of the lead of a member of ds
abbrev pub HasLoweredLeads : Gens → List (List Term) → Type 0
HasLoweredLeads b ds =
    (gs : List (List Term)) → All (IsHomogeneousPoly b.prime b.variables) gs → SpanOneModule b.prime b.variables gs (terms_of b.vectors)
    → HasAffineLeads b.prime b.variables (all_dehomogenised b.prime gs) ds
