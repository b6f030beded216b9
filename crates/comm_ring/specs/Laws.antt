-- The laws of this crate, stated at the numbers modulo n and at rows of them.
use Rattle.std.specs.Prelude.{◌≡◌, ◌↔◌, ◌⊎◌, ℕ, suc, ◌+◌, ◌<◌, ◌≤◌, List, ◌++◌, map, length, All, IsPermutation}
use Rattle.std.specs.List.{AllZip, Contains, flat_map}
use Rattle.prime_field.specs.Primes.{IsCharacteristic}
use Rattle.comm_ring.specs.Ring.{Ops, sub, pow}
use Rattle.comm_ring.specs.Residues.{residue_ops}
use Rattle.comm_ring.specs.Sums.{sum, below}
use Rattle.comm_ring.specs.Modules.{ModuleOps, combination, InSpan, Spans, DimensionOf, modulo, Independent, Dependent, IsBasis}
use Rattle.comm_ring.specs.Rows.{rows}
use Rattle.comm_ring.specs.Ideals.{InIdeal, SumOf, ProductOf, PowerOf, Takes, Apart}

-- a law of rings holds for the numbers modulo each n above 0
abbrev pub AtResidues : (Ops → Type 0) → Type 0
AtResidues law = (n : ℕ) → 0 < n → law (residue_ops n)

-- a law of fields holds for the numbers modulo each prime of the table
abbrev pub AtPrimes : (Ops → Type 0) → Type 0
AtPrimes law = (p : ℕ) → IsCharacteristic p → law (residue_ops p)

-- a law of modules over a field holds for the rows of each width modulo each prime of the table
abbrev pub AtRows : ((O : Ops) → ModuleOps O.carrier → Type 0) → Type 0
AtRows law = (p width : ℕ) → IsCharacteristic p → law (residue_ops p) (rows p width)

-- rows of one width with entries below p are equal in the module only where they are equal
abbrev pub RowsAreEqual : Type 0
RowsAreEqual = (p width : ℕ) → (x y : List ℕ) → length x ≡ width → length y ≡ width → All (λ c. c < p) x → All (λ c. c < p) y → (rows p width).◌≋◌ x y → x ≡ y

-- Sums over lists of numbers, and ideals.
module _ (O : Ops) where
  open O use {carrier, ◌≈◌, ◌⊕◌, ◌⊗◌, neg, 𝟘, 𝟙}

  infix 40 ◌≈◌
  infixl 60 ◌⊕◌
  infixl 70 ◌⊗◌
  -- a sum over two lists together is the sum of the two sums
  abbrev pub SumOfAppend : Type 0
  SumOfAppend = (f : ℕ → carrier) (xs ys : List ℕ) → sum O f (xs ++ ys) ≈ sum O f xs ⊕ sum O f ys

  -- a sum over a mapped list sums the composed function
  abbrev pub SumOfMap : Type 0
  SumOfMap = (f : ℕ → carrier) (g : ℕ → ℕ) (xs : List ℕ) → sum O f (map g xs) ≈ sum O (λ x. f (g x)) xs

  -- a sum over lists end to end is the sum of their sums
  abbrev pub SumOfFlatMap : Type 0
  SumOfFlatMap = (f : ℕ → carrier) (g : ℕ → List ℕ) (xs : List ℕ) → sum O f (flat_map g xs) ≈ sum O (λ x. sum O f (g x)) xs

  -- a common factor on either side can be taken out of a sum
  abbrev pub SumScaled : Type 0
  SumScaled = (c : carrier) (f : ℕ → carrier) (xs : List ℕ) → (sum O (λ x. c ⊗ f x) xs ≈ c ⊗ sum O f xs) × (sum O (λ x. f x ⊗ c) xs ≈ sum O f xs ⊗ c)

  -- the sum of f + g is the sum of f plus the sum of g
  abbrev pub SumOfSums : Type 0
  SumOfSums = (f g : ℕ → carrier) (xs : List ℕ) → sum O (λ x. f x ⊕ g x) xs ≈ sum O f xs ⊕ sum O g xs

  -- a double sum can be taken in either order
  abbrev pub SumsSwap : Type 0
  SumsSwap = (f : ℕ → ℕ → carrier) (xs ys : List ℕ) → sum O (λ x. sum O (f x) ys) xs ≈ sum O (λ y. sum O (λ x. f x y) xs) ys

  -- a sum does not depend on the order of the list
  abbrev pub SumOfPermutation : Type 0
  SumOfPermutation = (f : ℕ → carrier) (xs ys : List ℕ) → IsPermutation xs ys → sum O f ys ≈ sum O f xs

  -- the product of two sums is the double sum of the products
  abbrev pub ProductOfSums : Type 0
  ProductOfSums = (f g : ℕ → carrier) (xs ys : List ℕ) → sum O (λ x. sum O (λ y. f x ⊗ g y) ys) xs ≈ sum O f xs ⊗ sum O g ys

  -- over 0, .., n the last summand, and the first, can be taken out
  abbrev pub SumOverRange : Type 0
  SumOverRange = (f : ℕ → carrier) (n : ℕ) → (sum O f (below (suc n)) ≈ sum O f (below n) ⊕ f n) × (sum O f (below (suc n)) ≈ f 0 ⊕ sum O (λ k. f (suc k)) (below n))

  -- (1 - x) (1 + x + .. + x^(n-1)) is 1 - x^n
  abbrev pub GeometricSum : Type 0
  GeometricSum = (x : carrier) (n : ℕ) → sub O 𝟙 x ⊗ sum O (pow O x) (below n) ≈ sub O 𝟙 (pow O x n)

  -- the ideal of two lists together is the sum of their ideals
  abbrev pub IdealOfAppend : Type 0
  IdealOfAppend = (gs hs : List carrier) (f : carrier) → InIdeal O (gs ++ hs) f ↔ SumOf O (InIdeal O gs) (InIdeal O hs) f

  -- where two ideals are apart, so are their powers, and what lies in both lies in their product
  abbrev pub ApartIdeals : Type 0
  ApartIdeals = (gs hs : List carrier) → Apart O (InIdeal O gs) (InIdeal O hs)
      → ((m n : ℕ) → Apart O (PowerOf O (InIdeal O gs) m) (PowerOf O (InIdeal O hs) n)) × ((f : carrier) → InIdeal O gs f → InIdeal O hs f → ProductOf O (InIdeal O gs) (InIdeal O hs) f)

  -- what every product of m generators takes into an ideal, every product of m members of their ideal does, and so
  -- does every member of its power
  abbrev pub TakenByGenerators : Type 0
  TakenByGenerators = (gs ks : List carrier) (m : ℕ) (f : carrier) → Takes O (Contains gs) m (InIdeal O ks) f
      → Takes O (InIdeal O gs) m (InIdeal O ks) f × ((x : carrier) → PowerOf O (InIdeal O gs) m x → InIdeal O ks (x ⊗ f))

-- Spans, independence and dimension.
module _ (O : Ops) (V : ModuleOps O.carrier) where
  open V use {carrier, ◌≋◌, ◌⊞◌, opposite, origin, ◌·◌}

  infix 40 ◌≋◌
  infixl 60 ◌⊞◌
  infixr 65 ◌·◌
  -- members of the span of us are dependent, or together with a part of us they span us and are as many
  abbrev pub ExchangeLaw : Type 0
  ExchangeLaw = (fs us : List carrier) → All (InSpan V us) fs
      → Dependent O V fs ⊎ ((rest : List carrier) × length fs + length rest ≡ length us × All (Contains us) rest × All (InSpan V (fs ++ rest)) us)

  -- independent members of a span are no more than what spans it
  abbrev pub FewIndependent : Type 0
  FewIndependent = (fs us : List carrier) → Independent O V fs → All (InSpan V us) fs → length fs ≤ length us

  -- members of a span that span it and are independent count its dimension
  abbrev pub BasisIsDimension : Type 0
  BasisIsDimension = (gs us : List carrier) → IsBasis O V (InSpan V gs) us → DimensionOf V (InSpan V gs) (length us)

  -- members that show a dimension are independent
  abbrev pub DimensionIsBasis : Type 0
  DimensionIsBasis = (gs : List carrier) (n : ℕ) (d : DimensionOf V (InSpan V gs) n) → IsBasis O V (InSpan V gs) d.0

  -- every list that spans has at least as many members as the dimension
  abbrev pub DimensionIsLeast : Type 0
  DimensionIsLeast = (gs vs : List carrier) (n : ℕ) → DimensionOf V (InSpan V gs) n → Spans V (InSpan V gs) vs → n ≤ length vs

  -- a span has one dimension
  abbrev pub DimensionIsUnique : Type 0
  DimensionIsUnique = (gs : List carrier) (m n : ℕ) → DimensionOf V (InSpan V gs) m → DimensionOf V (InSpan V gs) n → m ≡ n

  -- coordinates by independent members are unique
  abbrev pub UniqueCoordinates : Type 0
  UniqueCoordinates = (us : List carrier) → Independent O V us → (cs es : List O.carrier) → length cs ≡ length us → length es ≡ length us
      → combination V cs us ≋ combination V es us → AllZip O.◌≈◌ cs es

  -- along three spans, each within the next, dimensions add
  abbrev pub DimensionsAdd : Type 0
  DimensionsAdd = (gs hs ks : List carrier) → All (InSpan V hs) gs → All (InSpan V ks) hs → (m n : ℕ)
      → DimensionOf (modulo V (InSpan V hs)) (InSpan V ks) m → DimensionOf (modulo V (InSpan V gs)) (InSpan V hs) n
      → DimensionOf (modulo V (InSpan V gs)) (InSpan V ks) (m + n)
