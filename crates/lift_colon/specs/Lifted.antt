-- An ideal and a denominator with the reduced bases of the ideal, of its sum with the denominator and of the colon ideal
-- (Greuel and Pfister, sections on colon ideals and on syzygies).
use Rattle.std.specs.Prelude.{◌≡◌, ◌≢◌, ◌↔◌, ◌⊎◌, ℕ, ◌+◌, ◌<◌, ◌≤◌, List, [], ◌∷◌, All}
use Rattle.monomials.specs.declared.mono.TheConstants.{MAX_VARIABLES}
use Rattle.prime_field.specs.Primes.{IsPrime}
use Rattle.polys.specs.declared.term.Term.{Term}
use Rattle.polys.specs.Curve.{IsOver}
use Rattle.polys.specs.Ideal.{InIdeal, HasDim, HasInfiniteDim}
use Rattle.polys.specs.Poly.{Polynomial, terms_of}
use Rattle.polys.specs.Reduced.{IsReducedBasis}
use Rattle.polys.specs.Terms.{IsPoly, degree_of, sub, mul}
use Rattle.graded_modules.specs.Bases.{IsReduced, SpanOneModule}
use Rattle.graded_modules.specs.Deep.{IsDeep}
use Rattle.graded_modules.specs.Vector.{degree_at, lead_mono}
use Rattle.homogenising.specs.Homogenised.{all_homogenised}
use Rattle.denominator_module.specs.Laws.{AreGiven}
use Rattle.denominator_module.specs.Module.{module_of, IsDeepDenominator, IsColonBasis}
use Rattle.standard_monomials.specs.declared.finding.Dimension.{Dimension}
use Rattle.module_basis.specs.declared.gens.Gens.{Gens}
use Rattle.module_basis.specs.Gens.{AreGens}

-- the ideal by its reduced basis, the denominator, and the reduced bases of their sum and of the colon ideal
pub record LiftedData : Type 0 where
  pub prime : ℕ
  pub variables : ℕ
  pub denominator : Polynomial
  pub ideal : List Polynomial
  pub sum : List Polynomial
  pub colon : List Polynomial

-- what holds of the data
pub record IsLifted (l : LiftedData) : Type 0 where
  pub prime : IsPrime l.prime
  pub some_variables : 1 ≤ l.variables
  pub six_variables : l.variables ≤ MAX_VARIABLES
  pub denominator : IsOver l.prime l.variables l.denominator
  pub ideal_over : All (IsOver l.prime l.variables) l.ideal
  pub sum_over : All (IsOver l.prime l.variables) l.sum
  pub colon_over : All (IsOver l.prime l.variables) l.colon
  pub ideal : IsReducedBasis l.prime l.variables (InIdeal l.prime l.variables (terms_of l.ideal)) (terms_of l.ideal)
  pub sum : IsReducedBasis l.prime l.variables (InIdeal l.prime l.variables (l.denominator.terms ∷ terms_of l.ideal)) (terms_of l.sum)
  pub colon : IsColonBasis l.prime l.variables (terms_of l.ideal) l.denominator.terms (terms_of l.colon)
  pub sum_low : All (λ f. degree_of f ≤ 1000) (terms_of l.sum)
  pub low : All (λ f. degree_of f ≤ 1000) (terms_of l.colon)

-- the dimension of the polynomials modulo the ideal and the denominator
abbrev pub HasDimension : LiftedData → ℕ → Type 0
HasDimension l N = HasDim l.prime l.variables (l.denominator.terms ∷ terms_of l.ideal) N

-- it is infinite
abbrev pub HasInfiniteDimension : LiftedData → Type 0
HasInfiniteDimension l = HasInfiniteDim l.prime l.variables (l.denominator.terms ∷ terms_of l.ideal)

-- the answer is this dimension, as far as it is at most the limit
pub record IsDimension (l : LiftedData) (limit : ℕ) (a : Dimension) : Type 0 where
  pub finite : (N : ℕ) → (a ≡ Dimension.Finite N) ↔ ((N ≤ limit) × HasDimension l N)
  pub wide : (a ≡ Dimension.Wide) ↔ ((N : ℕ) × (limit < N) × HasDimension l N)
  pub infinite : (a ≡ Dimension.Infinite) ↔ HasInfiniteDimension l

-- the module of the denominator over generators of the ideal
pub record HasModule (l : LiftedData) (m : Gens) : Type 0 where
  pub generators : List (List Term)
  pub given : AreGiven l.prime l.variables l.denominator.terms generators
  pub same : (f : List Term) → InIdeal l.prime l.variables generators f ↔ InIdeal l.prime l.variables (terms_of l.ideal) f
  pub prime : m.prime ≡ l.prime
  pub variables : m.variables ≡ l.variables
  pub shift : m.shift ≡ degree_of l.denominator.terms
  pub gens : AreGens m
  pub reduced : IsReduced m.prime m.variables m.shift (terms_of m.vectors)
  pub span : SpanOneModule l.prime l.variables (module_of l.denominator.terms generators) (terms_of m.vectors)
  pub low : All (λ f. degree_at (degree_of l.denominator.terms) (lead_mono f) ≤ 1000) (terms_of m.vectors)

-- the ideal of these polynomials is deep under the cap, or the module of the denominator is
abbrev pub IsDeepWith : ℕ → ℕ → List Polynomial → Polynomial → ℕ → Type 0
IsDeepWith p n ideal d cap = IsDeep p n 0 (all_homogenised (terms_of ideal)) cap ⊎ IsDeepDenominator p n d.terms (terms_of ideal) cap

-- g - u d is in the ideal, and u is not much higher than g
pub record IsLift (l : LiftedData) (g u : List Term) : Type 0 where
  pub poly : IsPoly l.prime l.variables u
  pub lifts : InIdeal l.prime l.variables (terms_of l.ideal) (sub l.prime g (mul l.prime u l.denominator.terms))
  pub low : u ≢ [] → degree_of u + degree_of l.denominator.terms ≤ degree_of g + 1000
