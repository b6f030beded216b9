-- Local fractions in the form that the proofs recurse on.
use Rattle.std.specs.Prelude.{◌≡◌, ◌⊎◌, ℕ, List, [], ◌∷◌, length}
use Rattle.comm_ring.specs.Ring.{Ops, pow}
use Rattle.fraction_laws.specs.Fractions.{IntegralAt, fraction_ops, InA}
use Rattle.fraction_laws.proofs.Settings.{Each, prod, Ground}

module _ (Q : Ops) (d : Q.carrier) where
  open Q use {carrier, ◌≈◌, ◌⊕◌, ◌⊗◌, neg, 𝟘, 𝟙}

  infix 40 ◌≈◌
  infixl 60 ◌⊕◌
  infixl 70 ◌⊗◌
  -- (a,k) is integral, and every product of m members of P takes a into the multiples of d^k
  abbrev pub LocalTo : (carrier → Type 0) → carrier → ℕ → Type 0
  LocalTo P a k = IntegralAt Q d a k × ((m : ℕ) × ((l : List carrier) → length l ≡ m → Each Q P l → (q : carrier) × (prod Q l ⊗ a) ≈ (q ⊗ pow Q d k)))

  abbrev pub Mem : List carrier → carrier → Type 0
  Mem [] x = ⊥
  Mem (y ∷ l) x = (x ≈ y) ⊎ Mem l x

  abbrev pub fraction_ground : Ground
  fraction_ground = record { ops = fraction_ops Q d; A = InA Q d; d = (d, 0) }
