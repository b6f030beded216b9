-- Laws of graded modules and their bases.
use Rattle.std.specs.Prelude.{◌≡◌, ◌≢◌, ℕ, suc, ◌+◌, ◌<◌, ◌≤◌, List, [], ◌∷◌, ◌++◌, map, All, AllPairs, Contains}
use Rattle.std.specs.declared.cmp.Ordering.TheVariants.{Less}
use Rattle.monomials.specs.Mono.{Monomial, Divides, total_degree, cmp_dp}
use Rattle.prime_field.specs.Primes.{IsPrime}
use Rattle.polys.specs.declared.term.Term.{Term}
use Rattle.polys.specs.Terms.{EachMono, IsMonic, IsMonicOf, add, sub, mul}
use Rattle.polys.specs.Poly.{IsPlain}
use Rattle.polys.specs.Reduced.{leads, lower_monos}
use Rattle.graded_modules.specs.Vector.{IsGradedVector, IsFactor, IsGenerator, IsOfDegree, degree_at, lead_mono}
use Rattle.graded_modules.specs.Module.{InModule, IsLeadUpTo, IsLeadMultiple}
use Rattle.graded_modules.specs.Deep.{HasHighPair, IsDeep}
use Rattle.graded_modules.specs.SVector.{IsSumBelow, IsSettled, lead_lcm, s_vector}
use Rattle.graded_modules.specs.Bases.{AreApart, IsBasisBelow, HasAllLeads, IsReduced, SpanOneModule, IsNormalForm}

-- a module holds its generators, sums, differences and multiples, and a list whose span holds another's generators spans
-- no less
pub record ModuleLaws : Type 0 where
  pub none : (p n : ℕ) (gs : List (List Term)) → InModule p n gs []
  pub generator : (p n : ℕ) (gs : List (List Term)) (g : List Term) → 1 < p → All (IsGradedVector p n) gs → Contains gs g → InModule p n gs g
  pub sum : (p n : ℕ) (gs : List (List Term)) (f g : List Term) → 0 < p → InModule p n gs f → InModule p n gs g → InModule p n gs (add p f g)
  pub difference : (p n : ℕ) (gs : List (List Term)) (f g : List Term) → 0 < p → InModule p n gs f → InModule p n gs g → InModule p n gs (sub p f g)
  pub multiple : (p n : ℕ) (gs : List (List Term)) (a f : List Term) → 0 < p → IsFactor p n a → InModule p n gs f → InModule p n gs (mul p a f)
  pub larger : (p n : ℕ) (gs hs : List (List Term)) (f : List Term) → 0 < p → All (InModule p n hs) gs → InModule p n gs f → InModule p n hs f
  pub vectors : (p n : ℕ) (gs : List (List Term)) (f : List Term) → 0 < p → All (IsGradedVector p n) gs → InModule p n gs f → IsGradedVector p n f

-- two monic homogeneous vectors with leads of one component
pub record ArePaired (p n shift : ℕ) (f g : List Term) : Type 0 where
  pub prime : IsPrime p
  pub first : IsGenerator p n shift f
  pub second : IsGenerator p n shift g
  pub first_monic : IsMonic f
  pub second_monic : IsMonic g
  pub one_component : (lead_mono f).component ≡ (lead_mono g).component

-- their S-vector is homogeneous of the degree of the least common multiple of the leads, lies below it, and is in each
-- module that holds both
pub record SVectorLaws : Type 0 where
  pub vector : (p n shift : ℕ) (f g : List Term) → ArePaired p n shift f g → IsGradedVector p n (s_vector p f g)
  pub degree : (p n shift : ℕ) (f g : List Term) → ArePaired p n shift f g → IsOfDegree shift (degree_at shift (lead_lcm f g)) (s_vector p f g)
  pub below : (p n shift : ℕ) (f g : List Term) → ArePaired p n shift f g → EachMono (λ m. cmp_dp m (lead_lcm f g) ≡ Less) (s_vector p f g)
  pub member : (p n shift : ℕ) (gs : List (List Term)) (f g : List Term) → ArePaired p n shift f g → InModule p n gs f → InModule p n gs g → InModule p n gs (s_vector p f g)

-- sums of multiples below m stay so over more vectors; what leaves the remainder r is one once the monic multiple of r is
-- added; and two criteria settle a pair without a division
pub record SettledLaws : Type 0 where
  pub more : (p n shift : ℕ) (bs cs : List (List Term)) (m : Monomial) (f : List Term) → ((b : List Term) → Contains bs b → Contains cs b)
      → IsSumBelow p n shift bs m f → IsSumBelow p n shift cs m f
  pub nothing_left : (p n shift : ℕ) (bs : List (List Term)) (m : Monomial) (f : List Term) → IsPrime p → IsGradedVector p n f
      → IsSumBelow p n shift bs m (sub p f []) → IsSumBelow p n shift bs m f
  pub remainder : (p n shift : ℕ) (bs : List (List Term)) (m : Monomial) (f r b : List Term) → IsPrime p → IsGradedVector p n f → IsGradedVector p n r
      → r ≢ [] → EachMono (λ w. cmp_dp w m ≡ Less) r → IsOfDegree shift (degree_at shift m) r → IsMonicOf p r b
      → IsSumBelow p n shift bs m (sub p f r) → IsSumBelow p n shift (bs ++ b ∷ []) m f
  -- the chain criterion: the lead of h divides the least common multiple, and both pairs with h are settled
  pub chain : (p n shift : ℕ) (bs : List (List Term)) (f g h : List Term) → All (IsGenerator p n shift) bs → ArePaired p n shift f g → ArePaired p n shift f h
      → Divides (lead_mono h) (lead_lcm f g) → IsSettled p n shift bs f h → IsSettled p n shift bs h g → IsSettled p n shift bs f g
  -- the settled pairs are so in both orders
  pub swapped : (p n shift : ℕ) (bs : List (List Term)) (f g : List Term) → All (IsGenerator p n shift) bs → ArePaired p n shift f g
      → IsSettled p n shift bs f g → IsSettled p n shift bs g f
  -- the product criterion: the leads of two polynomials have no variable in common
  pub coprime : (p n shift : ℕ) (bs : List (List Term)) (f g : List Term) → ArePaired p n shift f g → Contains bs f → Contains bs g
      → EachMono IsPlain f → EachMono IsPlain g
      → total_degree (lead_lcm f g).exponents ≡ total_degree (lead_mono f).exponents + total_degree (lead_mono g).exponents → IsSettled p n shift bs f g

-- what a basis below a degree says of the leads, and when it is a basis in all degrees
pub record BasisLaws : Type 0 where
  pub low_leads : (p n shift : ℕ) (gs bs : List (List Term)) (e : ℕ) (m : Monomial) → IsPrime p → All (IsGenerator p n shift) gs → IsBasisBelow p n shift gs bs (suc e)
      → IsLeadUpTo p n shift gs e m → IsLeadMultiple bs m
  -- two leads with a least common multiple above the cap: the module is deep
  pub deep : (p n shift : ℕ) (gs bs : List (List Term)) (e cap : ℕ) (f g : List Term) → IsPrime p → All (IsGenerator p n shift) gs → IsBasisBelow p n shift gs bs e
      → e ≤ cap → All (λ b. degree_at shift (lead_mono b) ≤ e) bs → Contains bs f → Contains bs g → lead_mono f ≢ lead_mono g
      → (lead_mono f).component ≡ (lead_mono g).component → cap < degree_at shift (lead_lcm f g) → HasHighPair p n shift gs cap
  -- no such pair, and no generator above the cap: the module is not deep, and all leads are known
  pub whole : (p n shift : ℕ) (gs bs : List (List Term)) (cap : ℕ) → IsPrime p → All (IsGenerator p n shift) gs → IsBasisBelow p n shift gs bs (suc cap)
      → ((t : Term) (f : List Term) → Contains gs (t ∷ f) → degree_at shift t.mono ≤ cap)
      → AllPairs (λ f g. (lead_mono f).component ≡ (lead_mono g).component → degree_at shift (lead_lcm f g) ≤ cap) bs
      → (IsDeep p n shift gs cap → ⊥) × HasAllLeads p n gs bs × SpanOneModule p n gs bs

-- members with all leads, none superfluous and with no lower monomial that a lead divides, are the reduced basis
abbrev pub ReducedByLeads : Type 0
ReducedByLeads =
    (p n shift : ℕ) (gs qs : List (List Term)) → IsPrime p → All (IsGenerator p n shift) gs → HasAllLeads p n gs qs → All (InModule p n gs) qs
    → All (IsGenerator p n shift) qs → All IsMonic qs → AllPairs (λ m w. cmp_dp m w ≡ Less) (leads qs) → AreApart qs
    → ((q : List Term) → Contains qs q → (m : Monomial) → Contains (lower_monos q) m → IsLeadMultiple qs m → ⊥)
    → IsReduced p n shift qs × SpanOneModule p n gs qs

-- a remainder none of whose monomials is a multiple of a lead is the normal form
abbrev pub RemainderIsNormal : Type 0
RemainderIsNormal =
    (p n shift : ℕ) (qs : List (List Term)) (v r : List Term) → IsPrime p → IsReduced p n shift qs → IsGradedVector p n v → IsGradedVector p n r
    → InModule p n qs (sub p v r) → ((m : Monomial) → Contains (map (λ t. t.mono) r) m → IsLeadMultiple qs m → ⊥) → IsNormalForm p n qs v r
