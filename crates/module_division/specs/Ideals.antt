-- Division and reduction of polynomials, as data of the program.
use Rattle.std.specs.Prelude.{ℕ, ◌≤◌, List, map, All, Contains}
use Rattle.monomials.specs.Mono.{Monomial}
use Rattle.polys.specs.declared.term.Term.{Term}
use Rattle.polys.specs.Curve.{IsOver}
use Rattle.polys.specs.Ideal.{InIdeal}
use Rattle.polys.specs.Poly.{Polynomial, terms_of}
use Rattle.polys.specs.Terms.{IsMonic, IsPoly, degree_of, sub}
use Rattle.graded_modules.specs.Module.{IsLeadMultiple}
use Rattle.homogenising.specs.Laws.{HasAffineLeads}

-- monic polynomials over the prime in these variables, with all leads of their ideal
pub record IsMonicStandardBasis (p n : ℕ) (members : List Polynomial) : Type 0 where
  pub over : All (IsOver p n) members
  pub monic : All IsMonic (terms_of members)
  pub leads : HasAffineLeads p n (terms_of members) (terms_of members)

-- r is left of v by the divisors: v - r is in their ideal, and no monomial of r is a multiple of a lead
pub record IsDivisionRemainder (p n : ℕ) (divisors : List (List Term)) (v r : List Term) : Type 0 where
  pub poly : IsPoly p n r
  pub difference : InIdeal p n divisors (sub p v r)
  pub outside : (m : Monomial) → Contains (map (λ t. t.mono) r) m → IsLeadMultiple divisors m → ⊥
  pub low : degree_of r ≤ degree_of v
