-- Modulo a prime every number but 0 is invertible: nothing is left modulo d.
use Rattle.std.proofs.Common.{◌≡◌, refl, sym, ℕ, ◌<◌, ◌*◌, ◌%◌, List, [], ◌∷◌, length, arith}
use Rattle.prime_field.specs.Primes.{IsPrime}
use Rattle.std.proofs.lemmas.List.Elements.{All-head, All-nil}
use Rattle.comm_ring.specs.Ring.{CommRing, IsRingMap}
use Rattle.comm_ring.specs.Residues.{residue_ops}
use Rattle.comm_ring.specs.Modules.{Dimension}
use Rattle.comm_ring.specs.Ideals.{InIdeal}
use Rattle.comm_ring.proofs.Residues.{residues}
use Rattle.prime_field.proofs.Table.{positive_of_prime}
use Rattle.comm_ring.proofs.Derived as Derived
use Rattle.comm_ring.proofs.Ideals as Ideals
use Rattle.fraction_laws.specs.Fractions.{Regular}
use Rattle.fraction_laws.proofs.Premises.{Space}

-- the identity takes numbers to numbers
pub identity : (p : ℕ) → IsRingMap (residue_ops p) (residue_ops p) (λ c. c)
identity p = record { resp = λ x y e. e; one = refl; add = λ x y. refl; mul = λ x y. refl }

module _ (p : ℕ) (prime : IsPrime p) (d : ℕ) (unit : (e : ℕ) × ((e * d) % p) % p ≡ 1 % p) where
  abbrev pub Q : CommRing
  Q = residues p (positive_of_prime p prime)

  pub regular : Regular (residue_ops p) d
  regular x h = Q.trans {x = x} {y = Q.◌⊗◌ 1 x} {z = 0} (Q.symm {x = Q.◌⊗◌ 1 x} {y = x} (Derived.one_mul Q x))
      (Q.trans {x = Q.◌⊗◌ 1 x} {y = Q.◌⊗◌ (Q.◌⊗◌ unit.0 d) x} {z = 0} (Q.mul_cong {x = 1} {x' = Q.◌⊗◌ unit.0 d} {y = x} {y' = x} (sym unit.1) refl)
      (Q.trans {x = Q.◌⊗◌ (Q.◌⊗◌ unit.0 d) x} {y = Q.◌⊗◌ unit.0 (Q.◌⊗◌ d x)} {z = 0} (Q.mul_assoc unit.0 d x)
      (Q.trans {x = Q.◌⊗◌ unit.0 (Q.◌⊗◌ d x)} {y = Q.◌⊗◌ unit.0 0} {z = 0} (Q.mul_cong {x = unit.0} {x' = unit.0} {y = Q.◌⊗◌ d x} {y' = 0} refl h) (Derived.mul_zero Q unit.0))))

  everything : (f : ℕ) → InIdeal (residue_ops p) (d ∷ []) f
  everything f = Ideals.everything Q (InIdeal (residue_ops p) (d ∷ [])) (Ideals.ideal_of_list Q (d ∷ []))
      ((Ideals.ideal_of_list Q (d ∷ [])).resp (Q.◌⊗◌ unit.0 d) 1 unit.1 ((Ideals.ideal_of_list Q (d ∷ [])).scale unit.0 d (All-head (InIdeal (residue_ops p) (d ∷ [])) d [] (Ideals.generators_in Q (d ∷ []))))) f

  pub none : Dimension (Space Q p prime (λ c. c) (identity p) d) 0
  none = ([], refl, All-nil (λ f. Unit {0}), (λ f t. ([], refl, everything _)), λ vs h l s. never vs l)
    where
      never : (vs : List ℕ) → length vs < 0 → ⊥
      never vs l = omega arith
