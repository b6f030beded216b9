-- Reduced bases of ideals (Greuel and Pfister, section on standard bases).
use Rattle.std.specs.Prelude.{◌≡◌, ◌↔◌, ℕ, List, [], ◌∷◌, map, All, AllPairs, Contains}
use Rattle.std.specs.declared.cmp.Ordering.TheVariants.{Less}
use Rattle.monomials.specs.Mono.{Monomial, Divides, cmp_dp}
use Rattle.polys.specs.declared.term.Term.{Term}
use Rattle.polys.specs.Terms.{IsPoly, IsMonic}
use Rattle.polys.specs.Ideal.{InIdeal}

-- the monomials that are leads of the polynomials of a list
abbrev pub leads : List (List Term) → List Monomial
leads [] = []
leads ([] ∷ gs) = leads gs
leads ((t ∷ f) ∷ gs) = t.mono ∷ leads gs

-- the monomials of a polynomial without its lead
abbrev pub lower_monos : List Term → List Monomial
lower_monos [] = []
lower_monos (t ∷ f) = map (λ u. u.mono) f

-- m is the lead of a member of the ideal of gs
abbrev pub IsLead : ℕ → ℕ → List (List Term) → Monomial → Type 0
IsLead p n gs m = (t : Term) × (f : List Term) × InIdeal p n gs (t ∷ f) × (t.mono ≡ m)

-- m is such a lead, and no other one divides it
abbrev pub IsMinimalLead : ℕ → ℕ → List (List Term) → Monomial → Type 0
IsMinimalLead p n gs m = IsLead p n gs m × ((w : Monomial) → IsLead p n gs w → Divides w m → w ≡ m)

-- qs is the reduced basis of its ideal
pub record Reduced (p n : ℕ) (qs : List (List Term)) : Type 0 where
  pub polys : All (IsPoly p n) qs
  pub monic : All IsMonic qs
  pub rising : AllPairs (λ m w. cmp_dp m w ≡ Less) (leads qs)
  pub minimal : (m : Monomial) → Contains (leads qs) m ↔ IsMinimalLead p n qs m
  pub lower : (q : List Term) → Contains qs q → (m : Monomial) → Contains (lower_monos q) m → IsLead p n qs m → ⊥

-- qs is reduced, and its ideal is all polynomials that meet the condition
pub record IsReducedBasis (p n : ℕ) (condition : List Term → Type 0) (qs : List (List Term)) : Type 0 where
  pub reduced : Reduced p n qs
  pub exact : (f : List Term) → IsPoly p n f → InIdeal p n qs f ↔ condition f
