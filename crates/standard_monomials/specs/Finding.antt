-- Finding and counting the standard monomials of an ideal by its reduced basis.
use Rattle.std.specs.Prelude.{◌≡◌, ◌≢◌, ◌↔◌, ◌⊎◌, ℕ, ◌<◌, ◌≤◌, List, length, map, slice_index_or, All, Contains}
use Rattle.std.specs.declared.cmp.Ordering.TheVariants.{Less, Greater}
use Rattle.monomials.specs.declared.mono.TheConstants.{MAX_DEGREE}
use Rattle.monomials.specs.Mono.{Monomial, times, variable, total_degree, cmp_dp}
use Rattle.polys.specs.declared.term.Term.{Term}
use Rattle.polys.specs.Poly.{Polynomial}
use Rattle.polys.specs.Ideal.{HasDim}
use Rattle.graded_modules.specs.Vector.{lead_mono}
use Rattle.graded_modules.specs.Module.{IsLeadMultiple}
use Rattle.standard_monomials.specs.Standard.{IsPowerOf, IsRising, IsStandard}
use Rattle.standard_monomials.specs.declared.finding.Standard.{Standard}
use Rattle.standard_monomials.specs.declared.finding.Standard.TheVariants.{All as Listed, Wide, Infinite}

-- the terms of each polynomial
abbrev pub terms_of : List Polynomial → List (List Term)
terms_of fs = map (λ f. f.terms) fs

-- the dimension is finite and at most the limit
abbrev pub HasDimUpTo : ℕ → ℕ → List (List Term) → ℕ → Type 0
HasDimUpTo p n gs limit = (N : ℕ) × (N ≤ limit) × HasDim p n gs N

-- the dimension is finite and above the limit
abbrev pub HasDimAbove : ℕ → ℕ → List (List Term) → ℕ → Type 0
HasDimAbove p n gs limit = (N : ℕ) × (limit < N) × HasDim p n gs N

-- no lead of ds has a degree above 9,000
abbrev pub HasLowLeads : List (List Term) → Type 0
HasLowLeads ds = All (λ f. total_degree (lead_mono f).exponents ≤ 9000) ds

-- the limit is at most 60,000, or the leads have low degrees: then the search meets no monomial of a higher degree
abbrev pub IsInReach : List (List Term) → ℕ → Type 0
IsInReach ds limit = (limit ≤ MAX_DEGREE) ⊎ HasLowLeads ds

-- P holds of the list, if the answer is one
abbrev pub IfListed : (List Monomial → Type 0) → Standard → Type 0
IfListed P (Listed ms) = P ms
IfListed P Wide = Unit {0}
IfListed P Infinite = Unit {0}

-- the answer is a list
abbrev pub IsListed : Standard → Type 0
IsListed (Listed ms) = Unit {0}
IsListed Wide = ⊥
IsListed Infinite = ⊥

-- ---- the steps of the search

-- each standard monomial has a degree below 60,000
abbrev pub HasLowStandard : ℕ → List (List Term) → Type 0
HasLowStandard n ds = (m : Monomial) → IsStandard n ds m → total_degree m.exponents < MAX_DEGREE

-- some lead is a power of the variable
abbrev pub HasPowerLead : List (List Term) → ℕ → Type 0
HasPowerLead ds v = (b : List Term) × Contains ds b × IsPowerOf v (lead_mono b)

-- the rising list gained m, and what is smaller keeps its place
pub record GainsMonomial (m : Monomial) (old new : List Monomial) : Type 0 where
  pub rising : IsRising new
  pub longer : length old ≤ length new
  pub members : (w : Monomial) → Contains new w ↔ (Contains old w ⊎ (m ≡ w))
  pub kept : (i : ℕ) (d : Monomial) → i < length old → cmp_dp (slice_index_or old i d) m ≡ Less → slice_index_or new i d ≡ slice_index_or old i d

-- w is the multiple of m by one of the first k variables, and no multiple of a lead
pub record IsNext (ds : List (List Term)) (k : ℕ) (m w : Monomial) : Type 0 where
  pub factor : ℕ
  pub among : factor < k
  pub multiple : times m (variable factor) ≡ w
  pub outside : IsLeadMultiple ds w → ⊥

-- the rising list gained these multiples, and what is no greater than m keeps its place
pub record GainsMultiples (ds : List (List Term)) (k : ℕ) (m : Monomial) (old new : List Monomial) : Type 0 where
  pub rising : IsRising new
  pub longer : length old ≤ length new
  pub members : (w : Monomial) → Contains new w ↔ (Contains old w ⊎ IsNext ds k m w)
  pub kept : (i : ℕ) (d : Monomial) → i < length old → cmp_dp (slice_index_or old i d) m ≢ Greater → slice_index_or new i d ≡ slice_index_or old i d
