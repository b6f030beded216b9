-- Points and fractions local at several of them, in the forms that the proofs recurse on.
use Rattle.std.specs.Prelude.{◌≡◌, ◌⊎◌, ◌↔◌, ℕ, List, [], ◌∷◌, length}
use Rattle.comm_ring.specs.Ideals.{ProductOf}
use Rattle.comm_ring.specs.Ring.{Ops, pow}
use Rattle.fraction_laws.specs.Fractions.{IntegralAt, fraction_ops, InA}
use Rattle.fraction_laws.proofs.Settings.{Each, prod}
use Rattle.fraction_laws.proofs.Forms.{LocalTo, Mem}

module _ (Q : Ops) (d : Q.carrier) where
  open Q use {carrier, ◌≈◌, ◌⊕◌, ◌⊗◌, neg, 𝟘, 𝟙}

  infix 40 ◌≈◌
  infixl 60 ◌⊕◌
  infixl 70 ◌⊗◌
  -- the ideal of d and the list
  abbrev pub Id : List carrier → carrier → Type 0
  Id [] x = (q : carrier) × x ≈ d ⊗ q
  Id (p ∷ l) x = (q : carrier) × Id l (x ⊕ neg (q ⊗ p))

  -- a proper ideal that with any other member generates 1
  abbrev pub Max : List carrier → Type 0
  Max l = ¬ (Id l 𝟙) × ((f : carrier) → Id l f ⊎ Id (f ∷ l) 𝟙)

  -- every maximal ideal has all members of one of the listed ideals
  abbrev pub Covers : List (List carrier) → List carrier → Type 0
  Covers [] m = ⊥
  Covers (t ∷ s) m = ((x : carrier) → Id t x → Id m x) ⊎ Covers s m

  abbrev pub InAll : List (List carrier) → carrier → Type 0
  InAll [] x = Unit {0}
  InAll (t ∷ s) x = Id t x × InAll s x

  -- the ideal of l, as the definition of a point says it: d is a member, 1 is none, and with any other polynomial l
  -- generates 1
  abbrev pub Point : List carrier → Type 0
  Point l = ProductOf Q (Mem Q d l) (λ x. Unit {0}) d × ¬ (ProductOf Q (Mem Q d l) (λ x. Unit {0}) 𝟙) × ((f : carrier) → ¬ (ProductOf Q (Mem Q d l) (λ x. Unit {0}) f) → ProductOf Q (Mem Q d (f ∷ l)) (λ x. Unit {0}) 𝟙)

  abbrev pub EachPoint : List (List carrier) → Type 0
  EachPoint [] = Unit {0}
  EachPoint (t ∷ s) = Point t × EachPoint s

  -- no two of the lists have one ideal
  abbrev pub Differs : List carrier → List (List carrier) → Type 0
  Differs t [] = Unit {0}
  Differs t (u ∷ s) = ¬ ((x : carrier) → ProductOf Q (Mem Q d t) (λ y. Unit {0}) x ↔ ProductOf Q (Mem Q d u) (λ y. Unit {0}) x) × Differs t s

  abbrev pub Distinct : List (List carrier) → Type 0
  Distinct [] = Unit {0}
  Distinct (t ∷ s) = Differs t s × Distinct s

  -- every point has the ideal of one of the listed
  abbrev pub Holds : List (List carrier) → List carrier → Type 0
  Holds [] m = ⊥
  Holds (t ∷ s) m = ((x : carrier) → ProductOf Q (Mem Q d t) (λ y. Unit {0}) x ↔ ProductOf Q (Mem Q d m) (λ y. Unit {0}) x) ⊎ Holds s m

  -- for each list of s a list of m of its members
  abbrev pub Chosen : List (List carrier) → ℕ → List (List carrier) → Type 0
  Chosen [] m [] = Unit {0}
  Chosen [] m (l ∷ ls) = ⊥
  Chosen (t ∷ s) m [] = ⊥
  Chosen (t ∷ s) m (l ∷ ls) = length l ≡ m × Each Q (Mem Q d t) l × Chosen s m ls

  abbrev pub prod_all : List (List carrier) → carrier
  prod_all [] = 𝟙
  prod_all (l ∷ ls) = prod Q l ⊗ prod_all ls

  -- (a,k) is integral, and for some m every product that has m members of each list of s takes a into the multiples
  -- of d^k
  abbrev pub LocalAtAll : List (List carrier) → carrier → ℕ → Type 0
  LocalAtAll s a k = IntegralAt Q d a k × ((m : ℕ) × ((ls : List (List carrier)) → Chosen s m ls → (q : carrier) × (prod_all ls ⊗ a) ≈ (q ⊗ pow Q d k)))

  -- one fraction for each point of s, local there
  abbrev pub PartsAt : List (List carrier) → List (carrier × ℕ) → Type 0
  PartsAt [] [] = Unit {0}
  PartsAt [] (f ∷ fs) = ⊥
  PartsAt (t ∷ s) [] = ⊥
  PartsAt (t ∷ s) (f ∷ fs) = LocalTo Q d (Mem Q d t) f.0 f.1 × PartsAt s fs

  abbrev pub sum_all : List (carrier × ℕ) → carrier × ℕ
  sum_all [] = (fraction_ops Q d).𝟘
  sum_all (f ∷ fs) = (fraction_ops Q d).◌⊕◌ f (sum_all fs)

  -- (a,k) is a sum of one fraction of A and of fractions, one local at each point of s
  abbrev pub SumOfParts : List (List carrier) → carrier → ℕ → Type 0
  SumOfParts s a k = (b : carrier × ℕ) × (fs : List (carrier × ℕ)) × InA Q d b × PartsAt s fs × (fraction_ops Q d).◌≈◌ (a, k) ((fraction_ops Q d).◌⊕◌ b (sum_all fs))

  abbrev pub AllInA : List (carrier × ℕ) → Type 0
  AllInA [] = Unit {0}
  AllInA (f ∷ fs) = InA Q d f × AllInA fs
