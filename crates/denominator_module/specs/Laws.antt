-- Laws of the module of a denominator: sums, colon ideals, lifts.
use Rattle.std.specs.Prelude.{◌≡◌, ◌≢◌, ◌↔◌, ℕ, ◌+◌, ◌≤◌, List, [], ◌∷◌, All}
use Rattle.monomials.specs.declared.mono.TheConstants.{MAX_VARIABLES}
use Rattle.prime_field.specs.Primes.{IsPrime}
use Rattle.polys.specs.declared.term.Term.{Term}
use Rattle.polys.specs.Terms.{IsPoly, IsMonic, degree_of, sub, mul}
use Rattle.polys.specs.Ideal.{InIdeal, Regular}
use Rattle.polys.specs.Reduced.{IsReducedBasis}
use Rattle.graded_modules.specs.Vector.{IsGenerator, IsGradedVector, IsOfDegree, degree_at, lead_mono}
use Rattle.graded_modules.specs.Bases.{HasAllLeads, SpanOneModule, IsNormalForm}
use Rattle.homogenising.specs.Homogenised.{homogenised_to}
use Rattle.homogenising.specs.Laws.{HasAffineLeads}
use Rattle.denominator_module.specs.Module.{module_of, first, sum_members, colon_members, quotient_of, InColon, IsColonBasis}

-- d and the generators are polynomials in 1 to 6 variables modulo a prime
pub record AreGiven (p n : ℕ) (d : List Term) (gs : List (List Term)) : Type 0 where
  pub prime : IsPrime p
  pub six : n ≤ MAX_VARIABLES
  pub denominator : IsPoly p n d
  pub generators : All (IsPoly p n) gs

-- bs are monic homogeneous vectors that span the module, with all its leads
pub record IsModuleBasis (p n : ℕ) (d : List Term) (gs bs : List (List Term)) : Type 0 where
  pub vectors : All (IsGenerator p n (degree_of d)) bs
  pub monic : All IsMonic bs
  pub same : SpanOneModule p n (module_of d gs) bs
  pub all_leads : HasAllLeads p n bs bs

-- the module is spanned by homogeneous vectors
abbrev pub ModuleIsGraded : Type 0
ModuleIsGraded = (p n : ℕ) (d : List Term) (gs : List (List Term)) → AreGiven p n d gs → All (IsGenerator p n (degree_of d)) (module_of d gs)

-- ms are monic members with all leads of the ideal that they generate, and this is what meets the condition
pub record Generates (p n : ℕ) (condition : List Term → Type 0) (ms : List (List Term)) : Type 0 where
  pub polys : All (IsPoly p n) ms
  pub monic : All IsMonic ms
  pub leads : HasAffineLeads p n ms ms
  pub exact : (f : List Term) → IsPoly p n f → InIdeal p n ms f ↔ condition f

-- the first parts generate the ideal of d and the generators, the second parts the colon ideal
pub record PartsLaws : Type 0 where
  pub sum : (p n : ℕ) (d : List Term) (gs bs : List (List Term)) → AreGiven p n d gs → IsModuleBasis p n d gs bs → Generates p n (InIdeal p n (d ∷ gs)) (sum_members p bs)
  pub colon : (p n : ℕ) (d : List Term) (gs bs : List (List Term)) → AreGiven p n d gs → IsModuleBasis p n d gs bs → Generates p n (InColon p n gs d) (colon_members p bs)

-- r is the normal form of g lifted by k degrees beyond its own, and no member of bs has a degree above k
pub record IsLifting (p n : ℕ) (d : List Term) (gs bs : List (List Term)) (k : ℕ) (g r : List Term) : Type 0 where
  pub given : AreGiven p n d gs
  pub basis : IsModuleBasis p n d gs bs
  pub low : All (λ b. degree_at (degree_of d) (lead_mono b) ≤ k) bs
  pub poly : IsPoly p n g
  pub normal : IsNormalForm p n bs (homogenised_to (degree_of g + k) g) r
  pub vector : IsGradedVector p n r
  pub degree : IsOfDegree (degree_of d) (degree_of g + k) r

-- the first part of the normal form is 0 exactly for members of the ideal of d and the generators, and then its second part
-- gives the quotient u: g - u d is in the ideal of the generators
pub record LiftLaws : Type 0 where
  pub none : (p n : ℕ) (d : List Term) (gs bs : List (List Term)) (k : ℕ) (g r : List Term) → IsLifting p n d gs bs k g r
      → (first r ≡ []) ↔ InIdeal p n (d ∷ gs) g
  pub quotient : (p n : ℕ) (d : List Term) (gs bs : List (List Term)) (k : ℕ) (g r : List Term) → IsLifting p n d gs bs k g r
      → first r ≡ [] → InIdeal p n gs (sub p g (mul p (quotient_of p r) d))
  pub poly : (p n : ℕ) (d : List Term) (gs bs : List (List Term)) (k : ℕ) (g r : List Term) → IsLifting p n d gs bs k g r → IsPoly p n (quotient_of p r)
  pub low : (p n : ℕ) (d : List Term) (gs bs : List (List Term)) (k : ℕ) (g r : List Term) → IsLifting p n d gs bs k g r
      → quotient_of p r ≢ [] → degree_of (quotient_of p r) + degree_of d ≤ degree_of g + k

-- d is regular exactly where the colon ideal and the ideal have one reduced basis
abbrev pub RegularByColon : Type 0
RegularByColon =
    (p n : ℕ) (d : List Term) (gs is cs : List (List Term)) → AreGiven p n d gs → IsReducedBasis p n (InIdeal p n gs) is → IsColonBasis p n gs d cs
    → Regular p n gs d ↔ (is ≡ cs)
