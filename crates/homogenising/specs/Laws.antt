-- Laws of homogenising: ideals of polynomials and graded modules of one component.
use Rattle.std.specs.Prelude.{◌≡◌, ◌↔◌, ℕ, ◌≤◌, List, [], ◌∷◌, map, All, AllPairs, Contains}
use Rattle.std.specs.declared.cmp.Ordering.TheVariants.{Less}
use Rattle.monomials.specs.declared.mono.TheConstants.{MAX_VARIABLES}
use Rattle.monomials.specs.Mono.{Monomial, cmp_dp}
use Rattle.prime_field.specs.Primes.{IsPrime}
use Rattle.polys.specs.declared.term.Term.{Term}
use Rattle.polys.specs.Terms.{EachMono, IsPoly, IsMonic, degree_of, sub}
use Rattle.polys.specs.Poly.{IsPlain}
use Rattle.polys.specs.Ideal.{InIdeal}
use Rattle.polys.specs.Reduced.{leads, lower_monos, Reduced, IsReducedBasis}
use Rattle.graded_modules.specs.Vector.{IsGenerator, IsOfDegree, lead_mono}
use Rattle.graded_modules.specs.Module.{InModule, IsLeadMultiple}
use Rattle.graded_modules.specs.Bases.{AreApart, HasAllLeads}
use Rattle.homogenising.specs.Homogenised.{with_hom, homogenised, dehomogenised, all_dehomogenised}

-- a homogeneous polynomial
pub record IsHomogeneousPoly (p n : ℕ) (g : List Term) : Type 0 where
  pub generator : IsGenerator p n 0 g
  pub plain : EachMono IsPlain g

-- the homogenised polynomial is homogeneous of the same degree, and setting the variable to 1 gives the polynomial back
pub record HomogenisedLaws : Type 0 where
  pub homogeneous : (p n : ℕ) (f : List Term) → n ≤ MAX_VARIABLES → IsPoly p n f → IsHomogeneousPoly p n (homogenised f)
  pub degree : (p n : ℕ) (f : List Term) → n ≤ MAX_VARIABLES → IsPoly p n f → IsOfDegree 0 (degree_of f) (homogenised f)
  pub back : (p n : ℕ) (f : List Term) → n ≤ MAX_VARIABLES → IsPoly p n f → dehomogenised p (homogenised f) ≡ f

-- where the variable becomes 1 in a homogeneous polynomial, no terms meet, and the lead stays the lead
pub record DehomogenisedLaws : Type 0 where
  pub terms : (p n : ℕ) (g : List Term) → n ≤ MAX_VARIABLES → IsHomogeneousPoly p n g → dehomogenised p g ≡ map (λ t. record { coeff = t.coeff; mono = with_hom 0 t.mono }) g
  pub poly : (p n : ℕ) (g : List Term) → n ≤ MAX_VARIABLES → IsHomogeneousPoly p n g → IsPoly p n (dehomogenised p g)
  pub lead : (p n : ℕ) (g : List Term) → n ≤ MAX_VARIABLES → IsHomogeneousPoly p n g → lead_mono (dehomogenised p g) ≡ with_hom 0 (lead_mono g)
  pub monic : (p n : ℕ) (g : List Term) → n ≤ MAX_VARIABLES → IsHomogeneousPoly p n g → IsMonic g → IsMonic (dehomogenised p g)

-- the lead of each member of the ideal of is is a multiple of the lead of a member of ds
abbrev pub HasAffineLeads : ℕ → ℕ → List (List Term) → List (List Term) → Type 0
HasAffineLeads p n is ds = (t : Term) (f : List Term) → InIdeal p n is (t ∷ f) → IsLeadMultiple ds t.mono

-- members with all leads of a graded ideal give members with all leads of the ideal where the variable is 1
pub record LeadsStay (p n : ℕ) (gs qs : List (List Term)) : Type 0 where
  pub members : All (InIdeal p n (all_dehomogenised p gs)) (all_dehomogenised p qs)
  pub leads : HasAffineLeads p n (all_dehomogenised p gs) (all_dehomogenised p qs)

abbrev pub LeadsStayLeads : Type 0
LeadsStayLeads =
    (p n : ℕ) (gs qs : List (List Term)) → IsPrime p → n ≤ MAX_VARIABLES → All (IsHomogeneousPoly p n) gs → All (IsHomogeneousPoly p n) qs → All (InModule p n gs) qs
    → HasAllLeads p n gs qs → LeadsStay p n gs qs

-- members with all leads of an ideal, none superfluous and with no lower monomial that a lead divides, are its reduced
-- basis
abbrev pub ReducedByAffineLeads : Type 0
ReducedByAffineLeads =
    (p n : ℕ) (is ds : List (List Term)) → IsPrime p → All (IsPoly p n) is → All (IsPoly p n) ds → All (InIdeal p n is) ds → HasAffineLeads p n is ds
    → All IsMonic ds → AllPairs (λ m w. cmp_dp m w ≡ Less) (leads ds) → AreApart ds
    → ((q : List Term) → Contains ds q → (m : Monomial) → Contains (lower_monos q) m → IsLeadMultiple ds m → ⊥)
    → IsReducedBasis p n (InIdeal p n is) ds

-- a reduced basis has all leads of its ideal
abbrev pub ReducedHasLeads : Type 0
ReducedHasLeads = (p n : ℕ) (ds : List (List Term)) → IsPrime p → Reduced p n ds → HasAffineLeads p n ds ds

-- a remainder none of whose monomials is a multiple of a lead is 0 exactly for members
abbrev pub RemainderDecides : Type 0
RemainderDecides =
    (p n : ℕ) (is ds : List (List Term)) (v r : List Term) → IsPrime p → All (IsPoly p n) is → HasAffineLeads p n is ds → IsPoly p n v → IsPoly p n r
    → InIdeal p n is (sub p v r) → ((m : Monomial) → Contains (map (λ t. t.mono) r) m → IsLeadMultiple ds m → ⊥) → (r ≡ []) ↔ InIdeal p n is v
