-- Generators of a graded module, as data of the program.
use Rattle.std.specs.Prelude.{◌≡◌, ℕ, ◌-◌, ◌≤◌, All}
use Rattle.monomials.specs.declared.mono.TheConstants.{MAX_VARIABLES}
use Rattle.polys.specs.declared.term.Term.{Term}
use Rattle.polys.specs.Poly.{Polynomial}
use Rattle.monomials.specs.Mono.{total_degree}
use Rattle.homogenising.specs.Homogenised.{with_hom, homogenised}
use Rattle.graded_modules.specs.Vector.{IsGenerator}
use Rattle.module_basis.specs.declared.gens.Gens.{Gens}

-- a homogeneous vector of the program over this prime
pub record IsHomogeneousOver (p n shift : ℕ) (f : Polynomial) : Type 0 where
  pub prime : f.prime ≡ p
  pub vector : IsGenerator p n shift f.terms

-- 1 to 6 variables, and homogeneous vectors over the prime
pub record AreGens (gens : Gens) : Type 0 where
  pub some_variables : 1 ≤ gens.variables
  pub six_variables : gens.variables ≤ MAX_VARIABLES
  pub vectors : All (IsHomogeneousOver gens.prime gens.variables gens.shift) gens.vectors

-- the term lifted to the degree by a power of the homogenising variable
abbrev pub lifted : ℕ → Term → Term
lifted degree t = record { coeff = t.coeff; mono = with_hom (degree - total_degree t.mono.exponents) t.mono }

-- the homogenised polynomial of the program
abbrev pub homogenised_of : ℕ → Polynomial → Polynomial
homogenised_of p f = record { prime = p; terms = homogenised f.terms }
