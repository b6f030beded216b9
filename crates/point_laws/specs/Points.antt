-- Points, given by the generators of their ideals.
use Rattle.std.specs.Prelude.{◌≡◌, ◌↔◌, ℕ, List, ◌∷◌, length, All}
use Rattle.std.specs.List.{Contains, Any, AllPairs, AllZip}
use Rattle.comm_ring.specs.Ring.{Ops}
use Rattle.comm_ring.specs.Sums.{sum, product}
use Rattle.comm_ring.specs.Ideals.{InIdeal}
use Rattle.fraction_laws.specs.Fractions.{MultipleOf, Frac, fraction_ops, InA, IntegralAt, LocalTo}

module _ (Q : Ops) (d : Q.carrier) where
  open Q use {carrier, ◌≈◌, ◌⊗◌, 𝟙}

  infix 40 ◌≈◌
  infixl 70 ◌⊗◌
  -- the ideal of P holds d and not 1, and with any other member P generates 1
  abbrev pub Point : List carrier → Type 0
  Point P = InIdeal Q P d × ¬ (InIdeal Q P 𝟙) × ((f : carrier) → ¬ (InIdeal Q P f) → InIdeal Q (f ∷ P) 𝟙)

  -- two lists have one ideal
  abbrev pub SameIdeal : List carrier → List carrier → Type 0
  SameIdeal P R = (x : carrier) → InIdeal Q P x ↔ InIdeal Q R x

  -- points, no two of them with one ideal
  abbrev pub DistinctPoints : List (List carrier) → Type 0
  DistinctPoints s = All Point s × AllPairs (λ P R. ¬ (SameIdeal P R)) s

  -- every point has the ideal of one of the listed
  abbrev pub HasAllPoints : List (List carrier) → Type 0
  HasAllPoints s = (P : List carrier) → Point P → Any (λ R. SameIdeal R P) s

  -- for each point of s a list of m of its members
  abbrev pub Chosen : List (List carrier) → ℕ → List (List carrier) → Type 0
  Chosen s m ls = AllZip (λ P l. length l ≡ m × All (Contains P) l) s ls

  -- a over d^k is integral, and for some m every product with m members of each point of s takes a into the multiples
  -- of d^k
  abbrev pub LocalAt : List (List carrier) → carrier → ℕ → Type 0
  LocalAt s a k = IntegralAt Q d a k × ((m : ℕ) × ((ls : List (List carrier)) → Chosen s m ls → MultipleOf Q d k (product Q (λ l. product Q (λ x. x) l) ls ⊗ a)))

  -- one fraction for each point of s, local there
  abbrev pub Parts : List (List carrier) → List (Frac Q d) → Type 0
  Parts s fs = AllZip (λ P f. LocalTo Q d (Contains P) f.0 f.1) s fs

  -- a over d^k is a sum of one fraction of A and of fractions, one local at each point of s
  abbrev pub SumOfParts : List (List carrier) → carrier → ℕ → Type 0
  SumOfParts s a k = (b : Frac Q d) × (fs : List (Frac Q d)) × InA Q d b × Parts s fs
      × (fraction_ops Q d).◌≈◌ (a, k) ((fraction_ops Q d).◌⊕◌ b (sum (fraction_ops Q d) (λ f. f) fs))

module _ (O : Ops) (I : List O.carrier) where
  open O use {carrier, 𝟙}

  -- the ideal of P holds I and d and not 1, and with any other member P generates 1
  abbrev pub PointOver : carrier → List carrier → Type 0
  PointOver d P = All (InIdeal O P) I × InIdeal O P d × ¬ (InIdeal O P 𝟙) × ((f : carrier) → ¬ (InIdeal O P f) → InIdeal O (f ∷ P) 𝟙)
