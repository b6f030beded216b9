-- The laws of integral fractions over a ring, a regular member d, and scalars modulo p.
use Rattle.std.specs.Prelude.{◌≢◌, ◌↔◌, ◌%◌, ℕ, suc, ◌*◌, List, [], ◌∷◌}
use Rattle.std.specs.List.{Contains}
use Rattle.prime_field.specs.Primes.{IsCharacteristic}
use Rattle.comm_ring.specs.Ring.{Ops}
use Rattle.comm_ring.specs.Residues.{residue_ops}
use Rattle.comm_ring.specs.Modules.{Dimension, modulo, module_through}
use Rattle.comm_ring.specs.Ideals.{InIdeal}
use Rattle.fraction_laws.specs.Fractions.{MultipleOf, Frac, Equal, fraction_ops, IntegralAt, LocalTo, Serves, LocalIndependent}
use Rattle.fraction_laws.specs.Curves.{curve_ops, RegularOver, space_over}

module _ (Q : Ops) (d : Q.carrier) where
  open Q use {carrier}

  -- equal fractions are integral together, and local at a point together
  abbrev pub EqualFractionsAgree : Type 0
  EqualFractionsAgree = (P : List carrier) (a b : carrier) (k l : ℕ) → Equal Q d a k b l
      → (IntegralAt Q d a k ↔ IntegralAt Q d b l) × (LocalTo Q d (Contains P) a k ↔ LocalTo Q d (Contains P) b l)

  -- a fraction is integral exactly where one power of d serves for all its powers
  abbrev pub OnePowerServes : Type 0
  OnePowerServes = (a : carrier) (k : ℕ) → IntegralAt Q d a k ↔ ((n : ℕ) × Serves Q d a k n)

  -- sums and products keep a property of fractions
  abbrev pub IsClosed : (Frac Q d → Type 0) → Type 0
  IsClosed W = (x y : Frac Q d) → W x → W y → W ((fraction_ops Q d).◌⊕◌ x y) × W ((fraction_ops Q d).◌⊗◌ x y)

  -- integral fractions are closed under sums and products, and so are those local at a point
  abbrev pub FractionsAreClosed : Type 0
  FractionsAreClosed = IsClosed (λ x. IntegralAt Q d x.0 x.1) × ((P : List carrier) → IsClosed (λ x. LocalTo Q d (Contains P) x.0 x.1))

  module _ (p : ℕ) (scalar : ℕ → carrier) where
    -- where no r + 1 fractions local at P are independent modulo A, each equals some b over d^r
    abbrev pub DeltaBoundsPower : Type 0
    DeltaBoundsPower = (P : List carrier) (r : ℕ) → ¬ (LocalIndependent Q d p scalar P (suc r))
        → (a : carrier) (k : ℕ) → LocalTo Q d (Contains P) a k → (b : carrier) × Equal Q d a k b r

    -- modulo d^t the dimension is t times that modulo d
    abbrev pub PowersHaveDimension : Type 0
    PowersHaveDimension = (n : ℕ) → Dimension (modulo (module_through Q scalar) (InIdeal Q (d ∷ []))) n
        → (t : ℕ) → Dimension (modulo (module_through Q scalar) (MultipleOf Q d t)) (n * t)

    -- all of these
    pub record FractionLaws : Type 0 where
      pub equal : EqualFractionsAgree
      pub serves : OnePowerServes
      pub closed : FractionsAreClosed
      pub bound : DeltaBoundsPower
      pub powers : PowersHaveDimension

-- the laws hold for the numbers modulo each prime of the table, over each number that the prime does not divide
abbrev pub LawsModuloPrimes : Type 0
LawsModuloPrimes = (p : ℕ) → IsCharacteristic p → (d : ℕ) → d % p ≢ 0 → FractionLaws (residue_ops p) d p (λ c. c)

-- they hold modulo the ideal of each list of numbers, where d is regular modulo it and the dimension modulo it and d is n
abbrev pub LawsOverIdeals : Type 0
LawsOverIdeals = (p : ℕ) → IsCharacteristic p → (I : List ℕ) (d : ℕ) → RegularOver (residue_ops p) I d
    → (n : ℕ) → Dimension (space_over (residue_ops p) I (λ c. c) d) n → FractionLaws (curve_ops (residue_ops p) I) d p (λ c. c)
