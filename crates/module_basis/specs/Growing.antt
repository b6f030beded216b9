-- A basis that grows degree by degree (Buchberger's algorithm; Greuel and Pfister, section on standard bases of modules).
use Rattle.std.specs.Prelude.{◌≡◌, ◌≢◌, ◌⊎◌, ℕ, ◌+◌, ◌<◌, ◌≤◌, List, ◌++◌, length, All, Contains}
use Rattle.std.specs.declared.cmp.Ordering.TheVariants.{Less}
use Rattle.monomials.specs.Mono.{Monomial, cmp_dp}
use Rattle.polys.specs.declared.term.Term.{Term}
use Rattle.polys.specs.Terms.{EachMono, IsMonic}
use Rattle.polys.specs.Poly.{Polynomial, IsVector, terms_of}
use Rattle.graded_modules.specs.Vector.{IsGradedVector, IsOfDegree, degree_at, lead_mono}
use Rattle.graded_modules.specs.Module.{InModule, IsLeadMultiple}
use Rattle.graded_modules.specs.SVector.{IsSumBelow, IsSettled, lead_lcm}
use Rattle.graded_modules.specs.Deep.{HasHighPair}
use Rattle.graded_modules.specs.Bases.{IsBasisBelow}
use Rattle.module_basis.specs.declared.gens.Gens.{Gens}
use Rattle.module_basis.specs.declared.growing.Growing.{Growing}
use Rattle.module_basis.specs.declared.pairs.Pair.{Pair}
use Rattle.module_division.specs.Vectors.{member}

-- the leads of two members have one component
abbrev pub AreOfOneComponent : List (List Term) → ℕ → ℕ → Type 0
AreOfOneComponent bs i j = (lead_mono (member bs i)).component ≡ (lead_mono (member bs j)).component

-- the degree of the least common multiple of the leads of two members
abbrev pub pair_degree : ℕ → List (List Term) → ℕ → ℕ → ℕ
pair_degree shift bs i j = degree_at shift (lead_lcm (member bs i) (member bs j))

-- the pair of two members
abbrev pub pair_of : ℕ → List (List Term) → ℕ → ℕ → Pair
pair_of shift bs i j = record { first = i; second = j; degree = pair_degree shift bs i j }

-- q is the pair of two members with leads of one component
pub record IsPair (shift : ℕ) (bs : List (List Term)) (q : Pair) : Type 0 where
  pub rising : q.first < q.second
  pub inside : q.second < length bs
  pub one_component : AreOfOneComponent bs q.first q.second
  pub degree : q.degree ≡ pair_degree shift bs q.first q.second

-- the S-vector of two members is a sum of multiples below
abbrev pub IsSettledPair : Gens → List (List Term) → ℕ → ℕ → Type 0
IsSettledPair gens bs i j = IsSettled gens.prime gens.variables gens.shift bs (member bs i) (member bs j)

-- so it is for the two members of a pair
abbrev pub IsSettledPairOf : Gens → List (List Term) → Pair → Type 0
IsSettledPairOf gens bs q = IsSettledPair gens bs q.first q.second

-- the pairs of degree e, and the others
pub record IsParted (e : ℕ) (ps due later : List Pair) : Type 0 where
  pub of_degree : All (λ q. (q.degree ≡ e) × Contains ps q) due
  pub others : All (λ q. (q.degree ≢ e) × Contains ps q) later
  pub whole : (q : Pair) → Contains ps q → Contains (later ++ due) q

-- two members are settled, or their pair is in the list; its degree is at most the cap
pub record IsAwaited (gens : Gens) (cap : ℕ) (bs : List (List Term)) (ps : List Pair) (i j : ℕ) : Type 0 where
  pub low : pair_degree gens.shift bs i j ≤ cap
  pub waits : IsSettledPair gens bs i j ⊎ Contains ps (pair_of gens.shift bs i j)

-- so it is for these two, if their leads have one component
abbrev pub IsPairAwaited : Gens → ℕ → List (List Term) → List Pair → ℕ → ℕ → Type 0
IsPairAwaited gens cap bs ps i j = AreOfOneComponent bs i j → IsAwaited gens cap bs ps i j

-- so it is for each two of the first members with leads of one component
abbrev pub AreAwaited : Gens → ℕ → List (List Term) → List Pair → ℕ → Type 0
AreAwaited gens cap bs ps limit = (i j : ℕ) → i < j → j < limit → AreOfOneComponent bs i j → IsAwaited gens cap bs ps i j

-- so it is for the last one of so many members and each one before it
abbrev pub IsLastAwaited : Gens → ℕ → List (List Term) → List Pair → ℕ → Type 0
IsLastAwaited gens cap bs ps count = (i k : ℕ) → k + 1 ≡ count → i < k → AreOfOneComponent bs i k → IsAwaited gens cap bs ps i k

-- a basis below the degree e, of vectors of degree at most e
pub record IsGrown (gens : Gens) (e : ℕ) (bs : List (List Term)) : Type 0 where
  pub below : IsBasisBelow gens.prime gens.variables gens.shift (terms_of gens.vectors) bs e
  pub low : All (λ b. degree_at gens.shift (lead_mono b) ≤ e) bs

-- such a basis over the prime, with pairs of its members
pub record IsGrowing (gens : Gens) (e : ℕ) (g : Growing) : Type 0 where
  pub primes : All (λ f. f.prime ≡ gens.prime) g.basis.items
  pub grown : IsGrown gens e (terms_of g.basis.items)
  pub pairs : All (IsPair gens.shift (terms_of g.basis.items)) g.pairs.items

-- all of degree below e is done, and the pairs of degree e or more wait
pub record MayGrow (gens : Gens) (e : ℕ) (g : Growing) : Type 0 where
  pub growing : IsGrowing gens e g
  pub late : All (λ q. e ≤ q.degree) g.pairs.items
  pub awaited : AreAwaited gens g.cap (terms_of g.basis.items) g.pairs.items (length g.basis.items)

-- nothing changes but that pairs of degree above e are added
pub record GainsPairs (e : ℕ) (old new : Growing) : Type 0 where
  pub cap : new.cap ≡ old.cap
  pub vectors : new.basis.items ≡ old.basis.items
  pub more : List Pair
  pub pairs : new.pairs.items ≡ old.pairs.items ++ more
  pub late : All (λ q. e < q.degree) more

-- vectors and pairs of degree above e are added, so that each two members that were awaited still are, whatever else waits
pub record GainsVector (gens : Gens) (e : ℕ) (old new : Growing) : Type 0 where
  pub cap : new.cap ≡ old.cap
  pub more : List Polynomial
  pub vectors : new.basis.items ≡ old.basis.items ++ more
  pub more_pairs : List Pair
  pub pairs : new.pairs.items ≡ old.pairs.items ++ more_pairs
  pub late : All (λ q. e < q.degree) more_pairs
  pub awaited : (ps : List Pair) → AreAwaited gens old.cap (terms_of old.basis.items) (old.pairs.items ++ ps) (length old.basis.items)
      → AreAwaited gens old.cap (terms_of new.basis.items) (new.pairs.items ++ ps) (length new.basis.items)

-- a member of degree e of the module of the generators
pub record IsMemberAt (gens : Gens) (e : ℕ) (v : List Term) : Type 0 where
  pub vector : IsVector gens.prime v
  pub graded : IsGradedVector gens.prime gens.variables v
  pub degree : IsOfDegree gens.shift e v
  pub member : InModule gens.prime gens.variables (terms_of gens.vectors) v

-- a monic one whose lead is no multiple of a lead
pub record IsNewAt (gens : Gens) (e : ℕ) (bs : List (List Term)) (b : Polynomial) : Type 0 where
  pub prime : b.prime ≡ gens.prime
  pub member : IsMemberAt gens e b.terms
  pub monic : IsMonic b.terms
  pub fresh : IsLeadMultiple bs (lead_mono b.terms) → ⊥

-- v is a sum of multiples below each monomial of degree e that is greater than all of v
abbrev pub IsBelowAll : Gens → ℕ → List (List Term) → List Term → Type 0
IsBelowAll gens e bs v =
    (m : Monomial) → degree_at gens.shift m ≡ e → EachMono (λ w. cmp_dp w m ≡ Less) v → IsSumBelow gens.prime gens.variables gens.shift bs m v

-- f is in the module of bs, if it has the degree e
abbrev pub IsTaken : Gens → ℕ → List (List Term) → List Term → Type 0
IsTaken gens e bs f = degree_at gens.shift (lead_mono f) ≡ e → InModule gens.prime gens.variables bs f

-- so is each generator
abbrev pub AreTaken : Gens → ℕ → List (List Term) → Type 0
AreTaken gens e bs = (f : List Term) → Contains (terms_of gens.vectors) f → IsTaken gens e bs f

-- two leads of members have a least common multiple above the cap
abbrev pub HasHighLeads : Gens → ℕ → Type 0
HasHighLeads gens cap = HasHighPair gens.prime gens.variables gens.shift (terms_of gens.vectors) cap
