-- Bases of graded modules: those that hold below a degree, and reduced ones (Greuel and Pfister, section on standard
-- bases of modules).
use Rattle.std.specs.Prelude.{◌≡◌, ◌↔◌, ℕ, ◌<◌, List, [], ◌∷◌, map, All, AllPairs, Contains}
use Rattle.std.specs.declared.cmp.Ordering.TheVariants.{Less}
use Rattle.monomials.specs.Mono.{Monomial, Divides, cmp_dp}
use Rattle.polys.specs.declared.term.Term.{Term}
use Rattle.polys.specs.Terms.{IsMonic, sub}
use Rattle.polys.specs.Reduced.{leads, lower_monos}
use Rattle.graded_modules.specs.Vector.{IsGenerator, degree_at, lead_mono}
use Rattle.graded_modules.specs.Module.{InModule, IsModuleLead, IsLeast, IsLeadMultiple}
use Rattle.graded_modules.specs.SVector.{IsSettled, lead_lcm}

-- no lead divides another one
abbrev pub AreApart : List (List Term) → Type 0
AreApart bs = AllPairs (λ f g. (Divides (lead_mono f) (lead_mono g) → ⊥) × (Divides (lead_mono g) (lead_mono f) → ⊥)) bs

-- the S-vectors whose degree is below e are sums of multiples below
abbrev pub AreSettled : ℕ → ℕ → ℕ → List (List Term) → ℕ → Type 0
AreSettled p n shift bs e =
    AllPairs (λ f g. (lead_mono f).component ≡ (lead_mono g).component → degree_at shift (lead_lcm f g) < e → IsSettled p n shift bs f g) bs

-- monic homogeneous members of the module of gs, of which none is superfluous, that span its generators below the degree e
-- and whose S-vectors below this degree are settled
pub record IsBasisBelow (p n shift : ℕ) (gs bs : List (List Term)) (e : ℕ) : Type 0 where
  pub vectors : All (IsGenerator p n shift) bs
  pub monic : All IsMonic bs
  pub members : All (InModule p n gs) bs
  pub generators : (t : Term) (f : List Term) → Contains gs (t ∷ f) → degree_at shift t.mono < e → InModule p n bs (t ∷ f)
  pub apart : AreApart bs
  pub settled : AreSettled p n shift bs e

-- the lead of each member of the module of gs is a multiple of the lead of a member of bs
abbrev pub HasAllLeads : ℕ → ℕ → List (List Term) → List (List Term) → Type 0
HasAllLeads p n gs bs = (m : Monomial) → IsModuleLead p n gs m → IsLeadMultiple bs m

-- qs is the reduced basis of its module
pub record IsReduced (p n shift : ℕ) (qs : List (List Term)) : Type 0 where
  pub vectors : All (IsGenerator p n shift) qs
  pub monic : All IsMonic qs
  pub rising : AllPairs (λ m w. cmp_dp m w ≡ Less) (leads qs)
  pub minimal : (m : Monomial) → Contains (leads qs) m ↔ IsLeast (IsModuleLead p n qs) m
  pub lower : (q : List Term) → Contains qs q → (m : Monomial) → Contains (lower_monos q) m → IsModuleLead p n qs m → ⊥
  pub all_leads : HasAllLeads p n qs qs

-- both lists span one module
abbrev pub SpanOneModule : ℕ → ℕ → List (List Term) → List (List Term) → Type 0
SpanOneModule p n gs qs = (f : List Term) → InModule p n gs f ↔ InModule p n qs f

-- r differs from v by a member, and none of its monomials is the lead of a member
pub record IsNormalForm (p n : ℕ) (qs : List (List Term)) (v r : List Term) : Type 0 where
  pub difference : InModule p n qs (sub p v r)
  pub outside : (m : Monomial) → Contains (map (λ t. t.mono) r) m → IsModuleLead p n qs m → ⊥
  pub zero : (r ≡ []) ↔ InModule p n qs v
