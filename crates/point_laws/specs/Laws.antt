-- The laws of integral fractions at points: rings that cannot be enlarged, delta, and the splitting by points.
use Rattle.std.specs.Prelude.{◌≡◌, ◌≢◌, ◌↔◌, ◌%◌, ℕ, suc, ◌≤◌, List, [], ◌∷◌, length, All}
use Rattle.std.specs.List.{Contains}
use Rattle.prime_field.specs.Primes.{IsCharacteristic}
use Rattle.comm_ring.specs.Ring.{Ops}
use Rattle.comm_ring.specs.Residues.{residue_ops}
use Rattle.comm_ring.specs.Sums.{sum}
use Rattle.comm_ring.specs.Modules.{DimensionOf, Dimension, modulo, module_through}
use Rattle.comm_ring.specs.Ideals.{InIdeal}
use Rattle.fraction_laws.specs.Fractions.{Frac, Equal, fraction_ops, InA, IntegralAt, LocalTo, InModule, IsFractionRing, KeepsRadical, IsFullAt, fraction_space, LocalIndependent, Delta}
use Rattle.fraction_laws.specs.Curves.{curve_ops, RegularOver, space_over}
use Rattle.point_laws.specs.Points.{Point, DistinctPoints, HasAllPoints, LocalAt, Parts, SumOfParts}

module _ (Q : Ops) (d : Q.carrier) where
  open Q use {carrier}

  -- the fractions b over d^k with b in the ideal of L
  abbrev pub ModuleOf : ℕ → List carrier → Frac Q d → Type 0
  ModuleOf k L = InModule Q d k (InIdeal Q L)

  -- descent: a ring of fractions that holds A and cannot be enlarged at P has every fraction local at P
  abbrev pub Descent : Type 0
  Descent = (P : List carrier) → Point Q d P → (k : ℕ) (L : List carrier) → IsFractionRing Q d (ModuleOf k L)
      → ((x : Frac Q d) → InA Q d x → ModuleOf k L x) → IsFullAt Q d P (ModuleOf k L)
      → (a : carrier) (l : ℕ) → LocalTo Q d (Contains P) a l → ModuleOf k L (a, l)

  -- the fractions b over d^k with b in the ideal of L are a ring that holds A, and all of L is local at P over d^k
  pub record IsLocalRing (P : List carrier) (k : ℕ) (L : List carrier) : Type 0 where
    pub ring : IsFractionRing Q d (ModuleOf k L)
    pub holds : (x : Frac Q d) → InA Q d x → ModuleOf k L x
    pub local : All (λ b. LocalTo Q d (Contains P) b k) L

  -- what takes the radical of such a ring into itself is a ring that holds it, lies over the next power of d, and is local at P
  abbrev pub Enlargement : Type 0
  Enlargement = (P : List carrier) → Point Q d P → (k : ℕ) (L : List carrier) → IsLocalRing P k L
      → IsFractionRing Q d (KeepsRadical Q d P (ModuleOf k L)) × ((x : Frac Q d) → ModuleOf k L x → KeepsRadical Q d P (ModuleOf k L) x)
      × ((h : Frac Q d) → KeepsRadical Q d P (ModuleOf k L) h → ((b : carrier) × Equal Q d h.0 h.1 b (suc k)) × LocalTo Q d (Contains P) h.0 h.1)

  -- such a ring that cannot be enlarged has exactly the fractions local at P
  abbrev pub FullIsLocal : Type 0
  FullIsLocal = (P : List carrier) → Point Q d P → (k : ℕ) (L : List carrier) → IsLocalRing P k L → IsFullAt Q d P (ModuleOf k L)
      → (a : carrier) (l : ℕ) → ModuleOf k L (a, l) ↔ LocalTo Q d (Contains P) a l

  -- where s has all points, integral is local at s
  abbrev pub AllPointsSuffice : Type 0
  AllPointsSuffice = (s : List (List carrier)) → HasAllPoints Q d s → (a : carrier) (k : ℕ) → IntegralAt Q d a k ↔ LocalAt Q d s a k

  -- for distinct points, local at s is a sum of one fraction of A and fractions, one local at each point
  abbrev pub LocalIsSumOfParts : Type 0
  LocalIsSumOfParts = (s : List (List carrier)) → DistinctPoints Q d s → (a : carrier) (k : ℕ) → LocalAt Q d s a k ↔ SumOfParts Q d s a k

  -- the sum is direct modulo A
  abbrev pub PartsAreDirect : Type 0
  PartsAreDirect = (s : List (List carrier)) → DistinctPoints Q d s → (fs : List (Frac Q d)) → Parts Q d s fs
      → InA Q d (sum (fraction_ops Q d) (λ f. f) fs) → All (InA Q d) fs

  -- the fractions local at a list of points are a ring, and for the empty list they are A
  abbrev pub LocalAtIsRing : Type 0
  LocalAtIsRing = ((s : List (List carrier)) → IsFractionRing Q d (λ x. LocalAt Q d s x.0 x.1)) × ((a : carrier) (k : ℕ) → LocalAt Q d [] a k ↔ InA Q d (a, k))

  -- where there is no point, every integral fraction is in A
  abbrev pub NoPoints : Type 0
  NoPoints = HasAllPoints Q d [] → (a : carrier) (k : ℕ) → IntegralAt Q d a k → InA Q d (a, k)

  module _ (p : ℕ) (scalar : ℕ → carrier) where
    -- a point has one delta
    abbrev pub DeltaIsUnique : Type 0
    DeltaIsUnique = (P : List carrier) (r s : ℕ) → Delta Q d p scalar P r → Delta Q d p scalar P s → r ≡ s

    -- the dimension modulo A of a ring that cannot be enlarged is delta
    abbrev pub FullCountsDelta : Type 0
    FullCountsDelta = (P : List carrier) → Point Q d P → (k : ℕ) (L : List carrier) → IsLocalRing P k L → IsFullAt Q d P (ModuleOf k L)
        → (r : ℕ) → DimensionOf (fraction_space Q d p scalar) (ModuleOf k L) r → Delta Q d p scalar P r

    -- a ring of local fractions of dimension r modulo A has l independent ones for each l up to r
    abbrev pub LocalRingIsBounded : Type 0
    LocalRingIsBounded = (P : List carrier) → Point Q d P → (k : ℕ) (L : List carrier) → IsLocalRing P k L
        → (r : ℕ) → DimensionOf (fraction_space Q d p scalar) (ModuleOf k L) r → (l : ℕ) → l ≤ r → LocalIndependent Q d p scalar P l

    -- distinct points are at most the dimension modulo d
    abbrev pub PointsAreFew : Type 0
    PointsAreFew = (n : ℕ) → Dimension (modulo (module_through Q scalar) (InIdeal Q (d ∷ []))) n → (s : List (List carrier)) → DistinctPoints Q d s → length s ≤ n

    -- all of these
    pub record PointLaws : Type 0 where
      pub descent : Descent
      pub enlargement : Enlargement
      pub full : FullIsLocal
      pub unique : DeltaIsUnique
      pub counts : FullCountsDelta
      pub bounded : LocalRingIsBounded
      pub all_points : AllPointsSuffice
      pub parts : LocalIsSumOfParts
      pub direct : PartsAreDirect
      pub none : NoPoints
      pub rings : LocalAtIsRing
      pub few : PointsAreFew

-- the laws hold for the numbers modulo each prime of the table, over each number that the prime does not divide
abbrev pub PointLawsModuloPrimes : Type 0
PointLawsModuloPrimes = (p : ℕ) → IsCharacteristic p → (d : ℕ) → d % p ≢ 0 → PointLaws (residue_ops p) d p (λ c. c)

-- they hold modulo the ideal of each list of numbers, where d is regular modulo it and the dimension modulo it and d is n
abbrev pub PointLawsOverIdeals : Type 0
PointLawsOverIdeals = (p : ℕ) → IsCharacteristic p → (I : List ℕ) (d : ℕ) → RegularOver (residue_ops p) I d
    → (n : ℕ) → Dimension (space_over (residue_ops p) I (λ c. c) d) n → PointLaws (curve_ops (residue_ops p) I) d p (λ c. c)
