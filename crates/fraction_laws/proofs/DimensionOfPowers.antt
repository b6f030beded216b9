-- Modulo the power t of a regular member d a ring has t times the dimension that it has modulo d.
use Rattle.std.proofs.Common.{refl, subst, ℕ, zero, suc, ◌*◌, ◌≤◌, List, [], ◌∷◌, length, map, arith}
use Rattle.std.proofs.lemmas.List.{length-map}
use Rattle.std.proofs.lemmas.List.Elements.{All-nil}
use Rattle.prime_field.specs.Primes.{IsPrime}
use Rattle.comm_ring.specs.Ring.{CommRing, IsRingMap, pow}
use Rattle.comm_ring.specs.Residues.{residue_ops}
use Rattle.comm_ring.specs.Modules.{IsSubmodule, IsEmbedding, combine, DimensionOf, Dimension, module_through}
use Rattle.comm_ring.specs.Ideals.{InIdeal}
use Rattle.comm_ring.proofs.Derived as Derived
use Rattle.comm_ring.proofs.Quote.{ring, ring_by, fact, quote}
use Rattle.comm_ring.proofs.Residues.{residues}
use Rattle.comm_ring.proofs.Fields.{residue_field}
use Rattle.prime_field.proofs.Table.{positive_of_prime}
use Rattle.comm_ring.proofs.Modules.{Module, through}
use Rattle.comm_ring.proofs.Quotients.{quotient}
use Rattle.comm_ring.proofs.Dimension.{dimension_adds, dimension_of_basis, basis_of_dimension, basis_carried}
use Rattle.fraction_laws.specs.Fractions.{Regular, MultipleOf}
use Rattle.fraction_laws.specs.Laws.{PowersHaveDimension}
use Rattle.fraction_laws.proofs.Premises.{multiple_in, multiple_out, submodule}

module _ (Q : CommRing) (d : Q.carrier) (regular : Regular Q.ops d) (p : ℕ) (prime : IsPrime p) (scalar : ℕ → Q.carrier) (m : IsRingMap (residue_ops p) Q.ops scalar) where
  open Q use {ops, carrier, ◌≈◌, ◌⊕◌, ◌⊗◌, neg, 𝟘, 𝟙, rfl, symm, trans, add_cong, mul_cong, neg_cong, add_neg, mul_one, mul_comm, mul_assoc}

  infix 40 ◌≈◌
  infixl 60 ◌⊕◌
  infixl 70 ◌⊗◌
  abbrev K : CommRing
  K = residues p (positive_of_prime p prime)

  abbrev whole : Module K
  whole = through K Q scalar m

  abbrev Multiple : ℕ → carrier → Type 0
  Multiple t = MultipleOf ops d t

  regular_power : (t : ℕ) (x : carrier) → x ⊗ pow ops d t ≈ 𝟘 → x ≈ 𝟘
  unfolding pow
  regular_power zero x e = trans (symm (mul_one x)) e
  regular_power (suc t) x e = regular_power t x (regular (x ⊗ pow ops d t) (trans (ring Q (x ∷ d ∷ pow ops d t ∷ []) (search quote depth 20) tt) e))

  multiples : (t : ℕ) → IsSubmodule (module_through ops scalar) (Multiple t)
  multiples t = record {
    resp = λ x y e h. (h.0, trans (symm e) h.1);
    none = (𝟘, symm (Derived.zero_mul Q (pow ops d t)));
    add = λ x y h k. (h.0 ⊕ k.0, trans (add_cong h.1 k.1) (symm (Derived.distrib_right Q h.0 k.0 (pow ops d t))));
    scale = λ c x h. (scalar c ⊗ h.0, trans (mul_cong (rfl (scalar c)) h.1) (symm (mul_assoc (scalar c) h.0 (pow ops d t))));
  }

  all : IsSubmodule (module_through ops scalar) (λ x. Unit {0})
  all = record { resp = λ x y e h. tt; none = tt; add = λ x y h k. tt; scale = λ c x h. tt }

  more : (t : ℕ) (x : carrier) → Multiple (suc t) x → Multiple t x
  unfolding pow
  more t x h = (h.0 ⊗ d, trans h.1 (symm (mul_assoc h.0 d (pow ops d t))))

  abbrev Base : Module K
  Base = quotient K whole (InIdeal ops (d ∷ [])) (submodule Q p prime scalar m d)

  abbrev At : ℕ → Module K
  At t = quotient K whole (Multiple t) (multiples t)

  -- multiplication by d^t, from the ring modulo d to the ring modulo the next power
  shift : (t : ℕ) → carrier → carrier
  shift t x = x ⊗ pow ops d t

  shift_embeds : (t : ℕ) → IsEmbedding Base.ops (At (suc t)).ops (shift t)
  unfolding shift pow
  shift_embeds t = record {
    resp = λ x y h. let q = multiple_out Q p prime scalar m d (x ⊕ neg y) h in
        (q.0, trans (ring Q (x ∷ y ∷ pow ops d t ∷ []) (search quote depth 20) tt) (trans (mul_cong q.1 (rfl (pow ops d t))) (ring Q (d ∷ q.0 ∷ pow ops d t ∷ []) (search quote depth 20) tt)));
    add = λ x y. (𝟘, trans (ring Q (x ∷ y ∷ pow ops d t ∷ []) (search quote depth 20) tt) (symm (Derived.zero_mul Q (d ⊗ pow ops d t))));
    scale = λ c x. (𝟘, trans (ring Q (scalar c ∷ x ∷ pow ops d t ∷ []) (search quote depth 20) tt) (symm (Derived.zero_mul Q (d ⊗ pow ops d t))));
    injective = λ x y h. multiple_in Q p prime scalar m d (x ⊕ neg y) h.0
        (difference x y h.0 (regular_power t ((x ⊕ neg y) ⊕ neg (d ⊗ h.0)) (ring_by Q (x ∷ y ∷ d ∷ h.0 ∷ pow ops d t ∷ []) (fact 𝟙 _ _ h.1 ∷ []) (search quote depth 20) tt)));
  }
    where
      difference : (x y q : carrier) → (x ⊕ neg y) ⊕ neg (d ⊗ q) ≈ 𝟘 → x ⊕ neg y ≈ d ⊗ q
      difference x y q e = ring_by Q (x ∷ y ∷ d ∷ q ∷ []) (fact 𝟙 _ _ e ∷ []) (search quote depth 20) tt

  module _ (n : ℕ) (D : Dimension Base.ops n) where
    step : (t : ℕ) → DimensionOf (At (suc t)).ops (Multiple t) n
    unfolding shift
    step t = subst (λ k. DimensionOf (At (suc t)).ops (Multiple t) k) (simp length-map D.1)
        (dimension_of_basis K (residue_field p prime) (At (suc t)) (Multiple t) (map (shift t) D.0)
        (basis_carried K Base (At (suc t)) (shift t) (shift_embeds t) (λ x. Unit {0}) (Multiple t)
        (λ x h. (x, rfl (x ⊗ pow ops d t))) (λ y h. (h.0, tt, (multiples (suc t)).resp 𝟘 (y ⊕ neg (h.0 ⊗ pow ops d t)) (symm (trans (add_cong h.1 (rfl _)) (add_neg (h.0 ⊗ pow ops d t)))) (multiples (suc t)).none))
        D.0 (basis_of_dimension K (residue_field p prime) Base (λ x. Unit {0}) n D)))

    nothing : Dimension (At 0).ops 0
    unfolding pow combine
    nothing = ([], refl, All-nil (λ f. Unit {0}), (λ f h. ([], refl, (f ⊕ neg 𝟘, symm (mul_one _)))), λ vs h l s. never vs l)
      where
        never : (vs : List carrier) → suc (length vs) ≤ 0 → ⊥
        never vs l = omega arith

    powers : (t : ℕ) → Dimension (At t).ops (n * t)
    powers zero = subst (λ k. Dimension (At 0).ops k) (omega arith) nothing
    powers (suc t) = subst (λ k. Dimension (At (suc t)).ops k) (omega arith)
        (dimension_adds K (residue_field p prime) whole (Multiple (suc t)) (Multiple t) (λ x. Unit {0}) (multiples (suc t)) (multiples t) all (more t) (λ x h. tt) (n * t) n (powers t) (step t))

  pub powers_have_dimension : PowersHaveDimension ops d p scalar
  powers_have_dimension n D t = powers n D t
