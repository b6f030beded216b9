-- The reduction of monic vectors by one another (Greuel and Pfister, section on standard bases).
use Rattle.std.specs.Prelude.{◌≡◌, ◌≢◌, ℕ, ◌<◌, List, [], ◌∷◌, ◌++◌, length, All, AllPairs, Contains}
use Rattle.std.specs.declared.cmp.Ordering.TheVariants.{Less, Greater}
use Rattle.monomials.specs.Mono.{Divides, cmp_dp}
use Rattle.polys.specs.declared.term.Term.{Term}
use Rattle.polys.specs.Terms.{EachMono}
use Rattle.polys.specs.Poly.{Polynomial, IsVector, terms_of}
use Rattle.graded_modules.specs.Vector.{lead_mono}
use Rattle.graded_modules.specs.Module.{IsLeadMultiple}
use Rattle.module_division.specs.Vectors.{member}
use Rattle.module_division.specs.Division.{Reduces}

-- q is b with its tail divided by the members of bs
pub record IsTailReduced (p : ℕ) (bs : List (List Term)) (b q : List Term) : Type 0 where
  pub lead : Term
  pub tail : List Term
  pub rest : List Term
  pub before : b ≡ lead ∷ tail
  pub after : q ≡ lead ∷ rest
  pub reduces : Reduces p bs tail rest
  pub vector : IsVector p q
  pub outside : EachMono (λ m. IsLeadMultiple bs m → ⊥) rest

-- the leads do not fall
abbrev pub AreSorted : List Polynomial → Type 0
AreSorted fs = AllPairs (λ f g. cmp_dp (lead_mono f.terms) (lead_mono g.terms) ≢ Greater) fs

-- the leads rise, and none divides a later one
abbrev pub AreRising : List (List Term) → Type 0
AreRising bs = AllPairs (λ f g. (cmp_dp (lead_mono f) (lead_mono g) ≡ Less) × (Divides (lead_mono f) (lead_mono g) → ⊥)) bs

-- members of bs, of whose leads each lead of bs is a multiple, rising
pub record IsCore (bs ks : List (List Term)) : Type 0 where
  pub inside : (b : List Term) → Contains ks b → Contains bs b
  pub covers : (b : List Term) → Contains bs b → IsLeadMultiple ks (lead_mono b)
  pub rising : AreRising ks

-- the tails of such members, divided by them
pub record IsInterreduced (p : ℕ) (bs : List (List Term)) (qs : List Polynomial) : Type 0 where
  pub kept : List (List Term)
  pub core : IsCore bs kept
  pub as_many : length qs ≡ length kept
  pub primes : All (λ f. f.prime ≡ p) qs
  pub tails : (k : ℕ) → k < length kept → IsTailReduced p kept (member kept k) (member (terms_of qs) k)

-- f was put at the end, or its lead is a multiple of an earlier one
pub data IsKept (old : List Polynomial) (f : Polynomial) (new : List Polynomial) : Type 0 where
  superfluous : new ≡ old → IsLeadMultiple (terms_of old) (lead_mono f.terms) → IsKept old f new
  needed : new ≡ old ++ f ∷ [] → (IsLeadMultiple (terms_of old) (lead_mono f.terms) → ⊥) → IsKept old f new
